use Rattle.std.proofs.Common.{◌≡◌, ◌+◌, ◌++◌, ◌≤◌, length}
use Rattle.spv_journal.proofs.rings.put_all.Given as goal

abbrev pub invariant-loop-entry : goal.invariant-loop-entry
invariant-loop-entry l = record {
  all : l.gathered.items ++ l.entries.items ≡ l.fn.gathered.items ++ l.fn.entries.items;
  room : length l.entries.items + length l.gathered.items ≤ l.entries.capacity;
  capacity : l.entries.capacity ≡ l.fn.entries.capacity;
}

abbrev pub decreases-loop-entry : goal.decreases-loop-entry
decreases-loop-entry l = length l.gathered.items
