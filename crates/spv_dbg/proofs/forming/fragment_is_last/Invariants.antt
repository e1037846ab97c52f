use Rattle.std.proofs.Common.{◌≡◌, length}
use Rattle.spv_dbg.specs.Forming.{fragment_is_last}
use Rattle.spv_dbg.proofs.forming.fragment_is_last.Given as goal

abbrev pub invariant-loop-ids : goal.invariant-loop-ids
invariant-loop-ids l = fragment_is_last l.module l.ids ≡ fragment_is_last l.module l.initial.ids

abbrev pub decreases-loop-ids : goal.decreases-loop-ids
decreases-loop-ids l = length l.ids
