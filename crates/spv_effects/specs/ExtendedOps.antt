-- The operations that give a struct of two: IAddCarry 149, ISubBorrow 150, UMulExtended 151 and SMulExtended 152 (SPIR-V 1.6,
-- section "Arithmetic Instructions"). Member 0 has the low-order lanes, and member 1 the carries, the borrows or the
-- high-order lanes.
use Rattle.std.specs.Prelude.{◌≡◌, ◌+◌, ℕ, List, [], ◌∷◌}
use Rattle.std.specs.Simd.Lanes.{zip2}
use Rattle.spv_alu.specs.Extended.{extended_lanes}
use Rattle.spv_alu.specs.Integers.{IsWidth}
use Rattle.spv_alu.specs.declared.extended_op.ExtendedOp.{ExtendedOp}
use Rattle.spv_base.specs.Cell.{Cell}
use Rattle.spv_base.specs.declared.values.Value.{Value, List as Many}
use Rattle.spv_effects.specs.Lanes.{AreLanes, of_lanes}
use Rattle.spv_types.specs.Rows.{leaves}

abbrev pub low_lanes : ExtendedOp → List Cell → List Cell → List Cell
low_lanes op cs ds = zip2 (λ c d. (extended_lanes op c d).0) cs ds

abbrev pub high_lanes : ExtendedOp → List Cell → List Cell → List Cell
high_lanes op cs ds = zip2 (λ c d. (extended_lanes op c d).1) cs ds

unfoldable pub extended_value : ExtendedOp → Value → Value → Value
extended_value op a b = Many (of_lanes (low_lanes op (leaves a) (leaves b)) ∷ (of_lanes (high_lanes op (leaves a) (leaves b)) ∷ []))

-- lanes that an operation may be called on, twice as many as n is twice
pub record MayExtend (cs ds : List Cell) (n : ℕ) : Type 0 where
  pub width : ℕ
  pub half : ℕ
  pub fits : IsWidth width
  pub first : AreLanes width half cs
  pub second : AreLanes width half ds
  pub twice : half + half ≡ n
