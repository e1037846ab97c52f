use Rattle.spv_consts.specs.Lanes.{select_lane}
use Rattle.spv_consts.proofs.OperationLemmas.{triples_end, triples_more, triples_no_last, triples_no_middle}
use Rattle.spv_consts.proofs.operations.by_three.Goals as goal

pub loop-n-preserved-in_default : goal.loop-n-preserved-in_default
loop-n-preserved-in_default c = triples_no_middle select_lane c.args.conditions.now c.args.first.now c.args.second.now c.loop-n.cells.items _ c.loop-n.n c.in_default.ensures c.loop-n.invariant

pub loop-n-preserved-in_default-cell_at : goal.loop-n-preserved-in_default-cell_at
loop-n-preserved-in_default-cell_at c = triples_no_last select_lane c.args.conditions.now c.args.first.now c.args.second.now c.loop-n.cells.items _ c.loop-n.n c.in_default-cell_at.ensures c.loop-n.invariant

pub loop-n-preserved : goal.loop-n-preserved
loop-n-preserved c = triples_more select_lane c.args.conditions.now c.args.first.now c.args.second.now c.loop-n.cells.items _ _ c.loop-n.n c.index-conditions-n.result _ _ _ c.loop-n-test.true c.index-conditions-n.is c.in-Some.ensures c.in-Some-cell_at.ensures c.select_lane.ensures c.in_ok-push.ensures.items c.loop-n.invariant

pub returns : goal.returns
returns c = triples_end select_lane c.args.conditions.now c.args.first.now c.args.second.now c.loop-n.cells.items _ c.loop-n.n c.loop-n-test.false c.loop-n.invariant
