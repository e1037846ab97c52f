use Rattle.spv_expr.proofs.ValueLemmas.{bits_by_leaves}
use Rattle.spv_expr.proofs.laws.bits_are_those_of_leaves.Goals as goal

pub returns : goal.returns
returns c = λ v. bits_by_leaves v
