-- The binary operations on each lane: arithmetic, shifts, bits, logic and comparisons (SPIR-V 1.6, sections "Arithmetic
-- Instructions", "Bit Instructions" and "Relational and Logical Instructions").
use Rattle.std.specs.Prelude.{ℕ, List}
use Rattle.std.specs.Simd.Lanes.{zip2}
use Rattle.spv_alu.specs.Binary.{BinaryWidths, binary_lane, binary_row}
use Rattle.spv_alu.specs.declared.binary_op.BinaryOp.{BinaryOp}
use Rattle.spv_base.specs.Cell.{Cell}
use Rattle.spv_base.specs.declared.values.Value.{Value}
use Rattle.spv_effects.specs.Lanes.{AreLanes, of_lanes}
use Rattle.spv_types.specs.Rows.{leaves}

abbrev pub binary_value : BinaryOp → Value → Value → Value
binary_value op a b = of_lanes (zip2 (binary_lane op) (leaves a) (leaves b))

-- twice n lanes that an operation may be called on
pub record MayMeet (op : BinaryOp) (cs ds : List Cell) (n : ℕ) : Type 0 where
  pub v : ℕ
  pub w : ℕ
  pub fits : BinaryWidths (binary_row op) v w
  pub first : AreLanes v n cs
  pub second : AreLanes w n ds
