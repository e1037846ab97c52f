use Rattle.spv_mem.proofs.RootLemmas.{types_next}
use Rattle.spv_mem.proofs.targets.types_by_ids.Goals as goal

pub loop-target-preserved : goal.loop-target-preserved
loop-target-preserved c = λ q.
    types_next c.args.list.now c.loop-target.target-index (0, 0) q _ _ c.loop-target-test.true (c.in_ok-put_type.ensures q) (c.loop-target.invariant q)
