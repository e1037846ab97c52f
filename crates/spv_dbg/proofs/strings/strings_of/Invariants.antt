use Rattle.std.proofs.Common.{◌≡◌, ◌++◌, drop}
use Rattle.spv_dbg.specs.Tables.{strings_of}
use Rattle.spv_dbg.proofs.strings.strings_of.Given as goal

abbrev pub invariant-loop-inst : goal.invariant-loop-inst
invariant-loop-inst l = l.strings.items ++ strings_of (drop l.inst-index l.insts) ≡ strings_of l.insts
