use Rattle.std.proofs.Common.{rules, tests, ◌==◌}
use Rattle.std.proofs.lemmas.Iterator.{YieldsList-from_slice}
use Rattle.std.proofs.lemmas.Iterator.Search.{all_from_yields_List, any_from_yields_List}
use Rattle.spv_alu.specs.Vectors.{vector_row}
use Rattle.spv_alu.proofs.vector_op.VectorOp.holds.Goals as goal

pub returns-in-Any : goal.returns-in-Any
unfolding vector_row
returns-in-Any c =
    rw c.in-Any.is (any_from_yields_List (λ lane. lane.bits == 1) _ _ c.any.result c.any.ensures.ran (YieldsList-from_slice c.args.lanes.now (cc)) (λ x b q k. search (rules, tests)))

pub returns-in-All : goal.returns-in-All
unfolding vector_row
returns-in-All c =
    rw c.in-All.is (all_from_yields_List (λ lane. lane.bits == 1) _ _ c.all.result c.all.ensures.ran (YieldsList-from_slice c.args.lanes.now (cc)) (λ x b q k. search (rules, tests)))
