use Rattle.std.proofs.Common.{◌≡◌, take}
use Rattle.std.specs.Simd.Lanes.{zip2}
use Rattle.spv_alu.specs.Binary.{binary_lane}
use Rattle.spv_effects.proofs.binary_ops.binary_cells.Given as goal

abbrev pub invariant-loop-i : goal.invariant-loop-i
invariant-loop-i l = take l.i l.into ≡ zip2 (binary_lane l.operation) (take l.i l.a) (take l.i l.b)
