use Rattle.spv_consts.specs.Operations.{lane_of}
use Rattle.spv_consts.proofs.OperationLemmas.{pairs_end, pairs_more, pairs_skipped}
use Rattle.spv_consts.proofs.operations.by_two.Goals as goal

pub loop-n-preserved-in_default : goal.loop-n-preserved-in_default
loop-n-preserved-in_default c = pairs_skipped (lane_of c.args.op.now) c.args.first.now c.args.second.now c.loop-n.cells.items _ c.loop-n.n c.in_default.ensures c.loop-n.invariant

pub loop-n-preserved : goal.loop-n-preserved
loop-n-preserved c = pairs_more (lane_of c.args.op.now) c.args.first.now c.args.second.now c.loop-n.cells.items _ _ c.loop-n.n c.index-first-n.result _ _ c.loop-n-test.true c.index-first-n.is c.in-Some.ensures c.lane.ensures c.in_ok-push.ensures.items c.loop-n.invariant

pub returns : goal.returns
returns c = pairs_end (lane_of c.args.op.now) c.args.first.now c.args.second.now c.loop-n.cells.items _ c.loop-n.n c.loop-n-test.false c.loop-n.invariant
