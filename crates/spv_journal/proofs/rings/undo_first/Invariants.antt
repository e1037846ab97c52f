use Rattle.std.proofs.Common.{◌≡◌, ◌+◌, ◌-◌, ◌≤◌, drop, length, take}
use Rattle.spv_undo.specs.Entries.{count}
use Rattle.spv_undo.specs.Undo.{CanUndoAll, undo_all}
use Rattle.spv_journal.proofs.rings.undo_first.Given as goal

abbrev pub invariant-loop-number : goal.invariant-loop-number
invariant-loop-number l = record {
  there : l.fn.many - l._number ≤ length l.entries.items;
  can : CanUndoAll l.fn.inv (take (l.fn.many - l._number) l.entries.items) l.whole;
  state : undo_all l.fn.inv (take (l.fn.many - l._number) l.entries.items) l.whole ≡ undo_all l.fn.inv (take l.fn.many l.fn.entries.items) l.fn.whole;
  left : drop (l.fn.many - l._number) l.entries.items ≡ drop l.fn.many l.fn.entries.items;
  capacity : l.entries.capacity ≡ l.fn.entries.capacity;
  counted : l.counted + count (take (l.fn.many - l._number) l.entries.items) ≡ count (take l.fn.many l.fn.entries.items);
}
