use Rattle.std.proofs.Common.{◌≡◌, ◌++◌, drop}
use Rattle.spv_dbg.specs.Tables.{kept_in}
use Rattle.spv_dbg.proofs.marks.kept_in.Given as goal

abbrev pub invariant-loop-mark : goal.invariant-loop-mark
invariant-loop-mark l = l.kept.items ++ kept_in (drop l.mark-index l.marks) ≡ kept_in l.marks
