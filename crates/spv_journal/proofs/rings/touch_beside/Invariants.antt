use Rattle.std.proofs.Common.{List, ◌++◌, take}
use Rattle.spv_journal.specs.Touches.{IsTouchOf}
use Rattle.spv_undo.specs.declared.entries.Entry.{Entry}
use Rattle.spv_journal.proofs.rings.touch_beside.Given as goal

abbrev pub invariant-loop-number : goal.invariant-loop-number
invariant-loop-number l = (es : List Entry) → IsTouchOf es l.fn.newer → IsTouchOf (es ++ take l.number l.entries.items) l.touch
