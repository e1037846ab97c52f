use Rattle.spv_effects.proofs.TypeLemmas.{lanes_shape}
use Rattle.spv_effects.proofs.laws.lanes_have_shapes.Goals as goal

pub returns : goal.returns
returns c = lanes_shape
