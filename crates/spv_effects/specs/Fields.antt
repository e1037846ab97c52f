-- The operations on a field of bits in each lane: BitFieldInsert 201, BitFieldSExtract 202 and BitFieldUExtract 203 (SPIR-V 1.6,
-- section "Bit Instructions"). The offset and the count are scalars that hold for every lane. An extraction has nothing to
-- insert: its lanes are the same whatever `insert` is.
use Rattle.std.specs.Prelude.{◌≡◌, ℕ, List, length}
use Rattle.std.specs.Simd.Lanes.{zip2}
use Rattle.spv_alu.specs.Fields.{field_lane}
use Rattle.spv_alu.specs.Integers.{IsWidth}
use Rattle.spv_alu.specs.declared.field_op.FieldOp.{FieldOp}
use Rattle.spv_base.specs.Cell.{Cell}
use Rattle.spv_base.specs.declared.values.Value.{Value}
use Rattle.spv_effects.specs.Lanes.{AreLanes, lane_of, of_lanes}
use Rattle.spv_types.specs.Rows.{leaves}

abbrev pub field_value : FieldOp → Value → Value → Value → Value → Value
field_value op base insert offset count =
    of_lanes (zip2 (λ b i. field_lane op b i (lane_of offset) (lane_of count)) (leaves base) (leaves insert))

-- n lanes with a field, and n lanes that may be inserted
pub record HaveFields (bases inserts : List Cell) (n : ℕ) : Type 0 where
  pub width : ℕ
  pub fits : IsWidth width
  pub base : AreLanes width n bases
  pub insert : length inserts ≡ n
