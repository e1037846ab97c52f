use Rattle.std.proofs.Common.{◌≡◌, ◌+◌, ◌-◌, length, take}
use Rattle.spv_undo.specs.Entries.{count}
use Rattle.spv_journal.proofs.rings.drop_last.Given as goal

abbrev pub invariant-loop-number : goal.invariant-loop-number
invariant-loop-number l = record {
  entries : l.entries.items ≡ take (length l.fn.entries.items - l._number) l.fn.entries.items;
  capacity : l.entries.capacity ≡ l.fn.entries.capacity;
  counted : l.counted + count l.entries.items ≡ count l.fn.entries.items;
}
