use Rattle.std.proofs.Common.{◌≡◌, map, take}
use Rattle.spv_base.specs.Cell.{Cell, undefined_cell}
use Rattle.spv_effects.proofs.vectors.undefine.Given as goal

abbrev pub invariant-loop-i : goal.invariant-loop-i
invariant-loop-i l = take l.i l.into ≡ map (λ (d : Cell). undefined_cell d.width) (take l.i l.vector)
