-- The unary operations on each lane: SNegate 126, LogicalNot 168, Not 200, BitReverse 204 and BitCount 205, and the
-- conversions UConvert 113 and SConvert 114 (SPIR-V 1.6, sections "Arithmetic Instructions", "Relational and Logical
-- Instructions", "Bit Instructions" and "Conversion Instructions").
use Rattle.std.specs.Prelude.{ℕ, List, map}
use Rattle.spv_alu.specs.Unary.{UnaryWidths, unary_lane, unary_row}
use Rattle.spv_alu.specs.declared.unary_op.UnaryOp.{UnaryOp}
use Rattle.spv_base.specs.Cell.{Cell}
use Rattle.spv_base.specs.declared.values.Value.{Value}
use Rattle.spv_effects.specs.Lanes.{AreLanes, of_lanes}
use Rattle.spv_types.specs.Rows.{leaves}

-- the result, whose lanes have a width
abbrev pub unary_value : UnaryOp → ℕ → Value → Value
unary_value op width a = of_lanes (map (λ c. unary_lane op c width) (leaves a))

-- n lanes that an operation may be called on, for a result of a width
pub record MayTurn (op : UnaryOp) (width : ℕ) (cs : List Cell) (n : ℕ) : Type 0 where
  pub from : ℕ
  pub fits : UnaryWidths (unary_row op) from width
  pub operand : AreLanes from n cs
