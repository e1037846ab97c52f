use Rattle.std.proofs.Common.{◌≡◌, take}
use Rattle.spv_alu.specs.Glsl.{glsl_lane}
use Rattle.spv_alu.specs.Lanes.{zip3}
use Rattle.spv_effects.proofs.glsl_ops.glsl_cells.Given as goal

abbrev pub invariant-loop-i : goal.invariant-loop-i
invariant-loop-i l = take l.i l.into ≡ zip3 (glsl_lane l.operation) (take l.i l.a) (take l.i l.b) (take l.i l.c)
