-- The unary operations on one lane, each with its row (SPIR-V 1.6, sections "Conversion Instructions", "Arithmetic Instructions",
-- "Bit Instructions" and "Relational and Logical Instructions").
use Rattle.std.specs.Prelude.{◌≡◌, ℕ, ◌-◌, ◌^◌, ◌==◌, not, Bool, ℤ, pos, ◌-ℤ◌, count_ones, Option, IsSomeAnd, List, [], ◌∷◌}
use Rattle.std.specs.Option.{option_map}
use Rattle.std.specs.Int.{bit_at}
use Rattle.spv_base.specs.Entries.{reads}
use Rattle.spv_base.specs.Cell.{Cell}
use Rattle.spv_alu.specs.Integers.{IsWidth, signed, number_of_bits}
use Rattle.spv_alu.specs.Results.{integer, truth, defined_if}
use Rattle.spv_alu.specs.declared.unary_op.UnaryOp.{UnaryOp}
use Rattle.spv_alu.specs.declared.unary_op.UnaryOp.TheVariants.{UConvert, SConvert, SNegate, LogicalNot, Not, BitReverse, BitCount}

-- what kind of operation it is, and what it gives
pub data UnaryRow : Type 0 where
  -- an integer of any width, from the operand's width and bits
  conversion : (ℕ → ℕ → ℤ) → UnaryRow
  -- an integer of the operand's width, from that width and the operand's bits
  arithmetic : (ℕ → ℕ → ℤ) → UnaryRow
  -- a Boolean from a Boolean
  logical : (Bool → Bool) → UnaryRow

-- the table: a row for each operation
unfoldable pub unary_row : UnaryOp → UnaryRow
unary_row UConvert = conversion (λ w n. pos n)
unary_row SConvert = conversion signed
unary_row SNegate = arithmetic (λ w n. pos 0 -ℤ pos n)
unary_row LogicalNot = logical not
unary_row Not = arithmetic (λ w n. pos (2 ^ w - 1 - n))
unary_row BitReverse = arithmetic (λ w n. pos (number_of_bits w (λ i. bit_at n (w - 1 - i))))
unary_row BitCount = arithmetic (λ w n. pos (count_ones n))

-- the widths that the operand and the result may have
abbrev pub UnaryWidths : UnaryRow → ℕ → ℕ → Type 0
UnaryWidths (conversion f) v w = (IsWidth v) × (IsWidth w)
UnaryWidths (arithmetic f) v w = (IsWidth v) × (w ≡ v)
UnaryWidths (logical f) v w = (v ≡ 1) × (w ≡ 1)

-- the result at an operand of a width with the bits n, and a width of the result
abbrev pub unary_result : UnaryRow → ℕ → ℕ → ℕ → Cell
unary_result (conversion f) v n w = integer w (f v n)
unary_result (arithmetic f) v n w = integer w (f w n)
unary_result (logical f) v n w = truth (f (n == 1))

-- the operation on a lane: not defined where the operand isn't
abbrev pub unary_lane : UnaryOp → Cell → ℕ → Cell
unary_lane op a w = defined_if a.defined (unary_result (unary_row op) a.width a.bits w)

-- each operation under its opcode
abbrev pub unary_opcodes : List (ℕ × UnaryOp)
unary_opcodes =
    (113, UConvert) ∷ (114, SConvert) ∷ (126, SNegate) ∷ (168, LogicalNot) ∷ (200, Not) ∷ (204, BitReverse) ∷
    (205, BitCount) ∷ []

-- the unary operation of an opcode
unfoldable pub unary_op : ℕ → Option UnaryOp
unary_op number = reads number unary_opcodes

-- the widths that a unary operation may be called at, by its opcode
abbrev pub UnaryFits : ℕ → ℕ → ℕ → Type 0
UnaryFits number v w = IsSomeAnd (unary_op number) (λ op. UnaryWidths (unary_row op) v w)

-- the operation of an opcode on a lane, if the opcode is one of them
unfoldable pub unary_of : ℕ → Cell → ℕ → Option Cell
unary_of number a w = option_map (λ op. unary_lane op a w) (unary_op number)
