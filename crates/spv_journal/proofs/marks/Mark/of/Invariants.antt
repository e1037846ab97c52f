use Rattle.std.proofs.Common.{[]}
use Rattle.spv_base.specs.declared.values.Value.{List as Many}
use Rattle.spv_journal.proofs.marks.Mark.of.Given as goal

-- no register and no variable had a value: any tree will do
abbrev pub ghost-of : goal.ghost-of
ghost-of a = Many []
