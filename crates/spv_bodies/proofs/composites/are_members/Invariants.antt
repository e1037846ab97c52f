use Rattle.std.proofs.Common.{◌≡◌, drop}
use Rattle.spv_bodies.specs.Composites.{are_members}
use Rattle.spv_bodies.proofs.composites.are_members.Given as goal

-- the operands so far are of their members' types
abbrev pub invariant-loop-n : goal.invariant-loop-n
invariant-loop-n l = are_members l.context (drop l.n l.members) (drop l.n l.operands) ≡ are_members l.context l.members l.operands
