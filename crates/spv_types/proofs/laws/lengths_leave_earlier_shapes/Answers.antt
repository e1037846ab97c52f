use Rattle.spv_types.proofs.LengthLemmas.{length_shapes}
use Rattle.spv_types.proofs.laws.lengths_leave_earlier_shapes.Goals as goal

pub returns : goal.returns
returns c = λ ts roots array k n id v. length_shapes ts array n roots k id v
