use Rattle.std.proofs.Common.{◌≡◌, take}
use Rattle.spv_results.specs.Results.{numbers}
use Rattle.spv_results.proofs.literals.put_numbers.Given as goal

-- the numbers of the literals so far
abbrev pub invariant-loop-i : goal.invariant-loop-i
invariant-loop-i l = take l.i l.into ≡ numbers (take l.i l.operands)
