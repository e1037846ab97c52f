use Rattle.std.proofs.Common.{take}
use Rattle.spv_paths.specs.Kept.{IsRead}
use Rattle.spv_paths.proofs.variables.read_all.Given as goal

abbrev pub invariant-loop-debug : goal.invariant-loop-debug
invariant-loop-debug l = IsRead (take l.debug-index l.insts) l.read
