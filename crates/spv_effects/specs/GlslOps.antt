-- The extended instructions of GLSL.std.450 on each lane: SAbs 5, SSign 7, UMin 38, SMin 39, UMax 41, SMax 42, UClamp 44,
-- SClamp 45, FindILsb 73, FindSMsb 74 and FindUMsb 75. An operation of fewer operands gives the same whatever the others are.
use Rattle.std.specs.Prelude.{ℕ, List}
use Rattle.spv_alu.specs.Glsl.{glsl_lane}
use Rattle.spv_alu.specs.Integers.{IsWidth}
use Rattle.spv_alu.specs.declared.glsl_op.GlslOp.{GlslOp}
use Rattle.spv_base.specs.Cell.{Cell}
use Rattle.spv_base.specs.declared.values.Value.{Value}
use Rattle.spv_alu.specs.Lanes.{zip3}
use Rattle.spv_effects.specs.Lanes.{AreLanes, of_lanes}
use Rattle.spv_types.specs.Rows.{leaves}

abbrev pub glsl_value : GlslOp → Value → Value → Value → Value
glsl_value op a b c = of_lanes (zip3 (glsl_lane op) (leaves a) (leaves b) (leaves c))

-- three times n integers of one width
pub record MayJoin (cs ds es : List Cell) (n : ℕ) : Type 0 where
  pub width : ℕ
  pub fits : IsWidth width
  pub first : AreLanes width n cs
  pub second : AreLanes width n ds
  pub third : AreLanes width n es
