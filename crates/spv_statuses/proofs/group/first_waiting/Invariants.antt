use Rattle.std.proofs.Common.{◌≡◌, drop}
use Rattle.spv_statuses.specs.Group.{first_waiting}
use Rattle.spv_statuses.proofs.group.first_waiting.Given as goal

abbrev pub invariant-loop-status : goal.invariant-loop-status
invariant-loop-status l = first_waiting (drop l.status-index l.statuses) ≡ first_waiting l.statuses
