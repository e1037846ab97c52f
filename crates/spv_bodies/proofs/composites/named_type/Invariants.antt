use Rattle.std.proofs.Common.{◌≡◌, drop}
use Rattle.spv_bodies.specs.Composites.{named_type}
use Rattle.spv_bodies.proofs.composites.named_type.Given as goal

-- the literals from here on name what all name
abbrev pub invariant-loop-literal : goal.invariant-loop-literal
invariant-loop-literal l = named_type l.context l.ty (drop l.literal-index l.literals) ≡ named_type l.context l.whole l.literals
