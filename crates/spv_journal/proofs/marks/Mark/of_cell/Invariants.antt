use Rattle.std.proofs.Common.{[]}
use Rattle.spv_base.specs.declared.values.Value.{List as Many}
use Rattle.spv_journal.proofs.marks.Mark.of_cell.Given as goal

-- any tree, before the one that is meant is put in its place
abbrev pub ghost-of : goal.ghost-of
ghost-of a = Many []
