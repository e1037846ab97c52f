-- The operations of OpSpecConstantOp on lanes: those of the same opcode in a function (SPIR-V 1.6 sections 3.42.11 and 3.42.13
-- to 3.42.15). Lanes of widths that the operation does not take, which types that fit never have, give an undefined lane.
use Rattle.std.specs.Prelude.{ℕ, ◌==◌, ◌&&◌, nat_lt, nat_le, if◌then◌else◌, Bool, false}
use Rattle.std.specs.Option.{option_map_or, unwrap_or}
use Rattle.spv_base.specs.Cell.{Cell, undefined_cell}
use Rattle.spv_alu.specs.Unary.{UnaryRow, conversion, arithmetic, logical, unary_op, unary_of, unary_row}
use Rattle.spv_alu.specs.Binary.{BinaryRow, binary_op, binary_of, binary_row}
use Rattle.spv_alu.specs.Binary as binary
use Rattle.spv_alu.specs.Select.{select_of}

-- a width that an integer or a Boolean may have
abbrev pub is_lane_width : ℕ → Bool
is_lane_width width = nat_lt 0 width && nat_le width 64

-- the widths of the operand and the result that a unary operation takes
abbrev pub row_takes : UnaryRow → ℕ → ℕ → Bool
row_takes (conversion f) v w = is_lane_width v && is_lane_width w
row_takes (arithmetic f) v w = is_lane_width v && w == v
row_takes (logical f) v w = v == 1 && w == 1

abbrev pub takes_one : ℕ → ℕ → ℕ → Bool
takes_one op v w = option_map_or (λ o. row_takes (unary_row o) v w) (unary_op op) false

-- the widths of the operands that a binary operation takes
abbrev pub pair_takes : BinaryRow → ℕ → ℕ → Bool
pair_takes (binary.arithmetic f) v w = is_lane_width v && w == v
pair_takes (binary.unsigned_division f) v w = is_lane_width v && w == v
pair_takes (binary.signed_division f) v w = is_lane_width v && w == v
pair_takes (binary.logical f) v w = v == 1 && w == 1
pair_takes (binary.unsigned_comparison f) v w = is_lane_width v && w == v
pair_takes (binary.signed_comparison f) v w = is_lane_width v && w == v
pair_takes (binary.shift f) v w = is_lane_width v && is_lane_width w

abbrev pub takes_two : ℕ → ℕ → ℕ → Bool
takes_two op v w = option_map_or (λ o. pair_takes (binary_row o) v w) (binary_op op) false

-- a unary operation, with a result of a width
abbrev pub unary_lane : ℕ → ℕ → Cell → Cell
unary_lane op width a = if takes_one op a.width width then unwrap_or (unary_of op a width) (undefined_cell a.width) else undefined_cell a.width

-- a binary operation
abbrev pub binary_lane : ℕ → Cell → Cell → Cell
binary_lane op a b = if takes_two op a.width b.width then unwrap_or (binary_of op a b) (undefined_cell a.width) else undefined_cell a.width

-- Select: the first lane where the condition is true, else the second
abbrev pub select_lane : Cell → Cell → Cell → Cell
select_lane condition a b = if b.width == a.width then select_of condition a b else undefined_cell a.width
