use Rattle.std.proofs.Common.{◌≡◌, ◌+◌, map}
use Rattle.spv_undo.specs.Entries.{count}
use Rattle.spv_journal.specs.Rings.{mark_size}
use Rattle.spv_journal.proofs.rings.room_beside.Given as goal

abbrev pub invariant-loop-entry : goal.invariant-loop-entry
invariant-loop-entry l = l.room + (mark_size l.mark + count (map (λ y. y.now) l.yielded)) ≡ l.fn.limit
