use Rattle.std.proofs.Common.{◌≡◌, take}
use Rattle.spv_results.specs.Results.{numbers}
use Rattle.spv_results.proofs.literals.path_of.Given as goal

-- the path of the literals so far
abbrev pub invariant-loop-operand : goal.invariant-loop-operand
invariant-loop-operand l = l.path ≡ numbers (take l.operand-index l.operands)
