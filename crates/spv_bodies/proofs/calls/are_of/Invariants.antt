use Rattle.std.proofs.Common.{◌≡◌, drop}
use Rattle.spv_bodies.specs.Calls.{are_of}
use Rattle.spv_bodies.proofs.calls.are_of.Given as goal

-- the operands so far are of their types
abbrev pub invariant-loop-n : goal.invariant-loop-n
invariant-loop-n l = are_of l.context (drop l.n l.types) (drop l.n l.operands) ≡ are_of l.context l.types l.operands
