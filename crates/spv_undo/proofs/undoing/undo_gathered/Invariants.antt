use Rattle.std.proofs.Common.{◌≡◌, length}
use Rattle.spv_undo.specs.Undo.{CanUndoAll, undo_all}
use Rattle.spv_undo.proofs.undoing.undo_gathered.Given as goal

abbrev pub invariant-loop-entry : goal.invariant-loop-entry
invariant-loop-entry l = record {
  state : undo_all l.inv l.gathered.items l.whole ≡ undo_all l.inv l.fn.gathered.items l.fn.whole;
  can : CanUndoAll l.inv l.gathered.items l.whole;
}

abbrev pub decreases-loop-entry : goal.decreases-loop-entry
decreases-loop-entry l = length l.gathered.items
