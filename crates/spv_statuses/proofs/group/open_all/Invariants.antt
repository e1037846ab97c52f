use Rattle.std.proofs.Common.{◌≡◌}
use Rattle.spv_statuses.specs.Invocations.{once_opened}
use Rattle.spv_statuses.proofs.MapLemmas.{mapped}
use Rattle.spv_statuses.proofs.group.open_all.Given as goal

abbrev pub invariant-loop-status : goal.invariant-loop-status
invariant-loop-status l = l.status-items ≡ mapped once_opened l.status-index l.initial.status-items
