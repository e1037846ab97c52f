use Rattle.spv_effects.proofs.FormShapes.{form_keeps_shape}
use Rattle.spv_effects.proofs.laws.forms_keep_shapes.Goals as goal

pub returns : goal.returns
returns c = form_keeps_shape
