use Rattle.std.proofs.Common.{◌≡◌, map, take}
use Rattle.spv_effects.specs.Vectors.{shuffled}
use Rattle.spv_effects.proofs.vectors.shuffle_cells.Given as goal

abbrev pub invariant-loop-i : goal.invariant-loop-i
invariant-loop-i l = take l.i l.into ≡ map (shuffled l.first l.second) (take l.i l.numbers)
