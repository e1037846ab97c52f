use Rattle.std.proofs.Common.{◌≡◌, ◌++◌, drop, map}
use Rattle.spv_dbg.specs.Tables.{scalar_entry}
use Rattle.spv_dbg.proofs.scalars.scalar_entries.Given as goal

abbrev pub invariant-loop-debug : goal.invariant-loop-debug
invariant-loop-debug l = l.entries.items ++ map (scalar_entry l.module) (drop l.debug-index l.insts) ≡ map (scalar_entry l.module) l.insts
