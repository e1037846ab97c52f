use Rattle.std.proofs.Common.{◌≡◌}
use Rattle.spv_statuses.specs.Invocations.{once_closed}
use Rattle.spv_statuses.proofs.MapLemmas.{mapped}
use Rattle.spv_statuses.proofs.group.close_all.Given as goal

abbrev pub invariant-loop-status : goal.invariant-loop-status
invariant-loop-status l = l.status-items ≡ mapped (once_closed l.word) l.status-index l.initial.status-items
