use Rattle.std.proofs.Common.{◌≡◌, ◌++◌, drop}
use Rattle.spv_dbg.specs.Tables.{paired}
use Rattle.spv_dbg.proofs.InlinedLemmas.{carried}
use Rattle.spv_dbg.proofs.inlined.inlined_entries.Given as goal

abbrev pub invariant-loop-n : goal.invariant-loop-n
invariant-loop-n l = l.entries.items ++ carried l.before (paired (drop l.n l.stands) (drop l.n l.marks)) ≡ carried 0 (paired l.stands l.marks)
