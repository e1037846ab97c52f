use Rattle.std.proofs.Common.{◌≡◌, ◌++◌, take, drop}
use Rattle.spv_index.specs.Definitions.{before_functions}
use Rattle.spv_index.proofs.index.functions_start.Given as goal

-- no function so far
abbrev pub invariant-loop-n : goal.invariant-loop-n
invariant-loop-n l = before_functions l.insts ≡ take l.n l.insts ++ before_functions (drop l.n l.insts)
