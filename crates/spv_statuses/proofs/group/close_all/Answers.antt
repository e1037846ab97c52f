use Rattle.std.proofs.Common.{rules}
use Rattle.spv_statuses.specs.Invocations.{once_closed}
use Rattle.spv_statuses.proofs.MapLemmas.{mapped_back, mapped_more}
use Rattle.spv_statuses.proofs.group.close_all.Goals as goal

pub loop-status-preserved : goal.loop-status-preserved
loop-status-preserved c = mapped_more (once_closed c.args.word) _ _ _ _ _ c.loop-status.invariant c.loop-status-test.true c.once_closed.ensures

pub returns : goal.returns
returns c = mapped_back (once_closed c.args.word) c.loop-status.status-index c.args.statuses.now.items c.deref_mut-status-items.result.now c.loop-status.status-items c.args.statuses.now.len c.loop-status.invariant c.deref_mut-status-items.ensures.value (search rules) (search rules)
