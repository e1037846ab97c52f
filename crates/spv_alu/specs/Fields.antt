-- The operations on a field of bits (SPIR-V 1.6, section "Bit Instructions").
use Rattle.std.specs.Prelude.{ℕ, ◌+◌, ◌-◌, ◌/◌, ◌%◌, ◌^◌, nat_lt, nat_le, ◌&&◌, Bool, ℤ, pos, if◌then◌else◌, Option, List, [], ◌∷◌}
use Rattle.std.specs.Int.{bit_at}
use Rattle.std.specs.Option.{option_map}
use Rattle.spv_base.specs.Entries.{reads}
use Rattle.spv_base.specs.Cell.{Cell}
use Rattle.spv_alu.specs.Integers.{signed, number_of_bits}
use Rattle.spv_alu.specs.Results.{integer, defined_if}
use Rattle.spv_alu.specs.declared.field_op.FieldOp.{FieldOp}
use Rattle.spv_alu.specs.declared.field_op.FieldOp.TheVariants.{BitFieldInsert, BitFieldSExtract, BitFieldUExtract}

-- bit i of the base with the lowest bits of `insert` in the field
abbrev pub inserted_bit : ℕ → ℕ → ℕ → ℕ → ℕ → ℕ
inserted_bit base insert offset count i =
    if nat_le offset i && nat_lt i (offset + count) then bit_at insert (i - offset) else bit_at base i

-- the table: the result from the width, the bits of the base and of what is inserted, and the field's offset and count
unfoldable pub field_row : FieldOp → ℕ → ℕ → ℕ → ℕ → ℕ → ℤ
field_row BitFieldInsert w base insert offset count = pos (number_of_bits w (inserted_bit base insert offset count))
field_row BitFieldSExtract w base insert offset count = signed count (base / 2 ^ offset % 2 ^ count)
field_row BitFieldUExtract w base insert offset count = pos (base / 2 ^ offset % 2 ^ count)

-- the result; not defined where the field isn't within the width
abbrev pub field_result : FieldOp → ℕ → ℕ → ℕ → ℕ → ℕ → Cell
field_result op w base insert offset count = defined_if (nat_le (offset + count) w) (integer w (field_row op w base insert offset count))

-- whether the operands that there are are defined
unfoldable pub field_defined : FieldOp → Bool → Bool → Bool → Bool → Bool
field_defined BitFieldInsert base insert offset count = base && insert && offset && count
field_defined BitFieldSExtract base insert offset count = base && offset && count
field_defined BitFieldUExtract base insert offset count = base && offset && count

-- the operation on a lane: not defined where an operand isn't
abbrev pub field_lane : FieldOp → Cell → Cell → Cell → Cell → Cell
field_lane op base insert offset count =
    defined_if (field_defined op base.defined insert.defined offset.defined count.defined) (field_result op base.width base.bits insert.bits offset.bits count.bits)

-- each operation under its opcode
abbrev pub field_opcodes : List (ℕ × FieldOp)
field_opcodes =
    (201, BitFieldInsert) ∷ (202, BitFieldSExtract) ∷ (203, BitFieldUExtract) ∷ []

-- the operation of an opcode
unfoldable pub field_op : ℕ → Option FieldOp
field_op number = reads number field_opcodes

-- the operation of an opcode on a lane, if the opcode is one of them
unfoldable pub field_of : ℕ → Cell → Cell → Cell → Cell → Option Cell
field_of number base insert offset count = option_map (λ op. field_lane op base insert offset count) (field_op number)
