use Rattle.std.proofs.Common.{◌≡◌, map, take}
use Rattle.spv_alu.specs.Unary.{unary_lane}
use Rattle.spv_effects.proofs.unary_ops.unary_cells.Given as goal

abbrev pub invariant-loop-i : goal.invariant-loop-i
invariant-loop-i l = take l.i l.into ≡ map (λ c. unary_lane l.operation c l.width) (take l.i l.a)
