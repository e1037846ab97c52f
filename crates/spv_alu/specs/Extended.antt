-- The operations on one lane that give two integers (SPIR-V 1.6, section "Arithmetic Instructions").
use Rattle.std.specs.Prelude.{ℕ, ◌+◌, ◌*◌, ◌/◌, ◌^◌, nat_lt, ◌&&◌, ℤ, pos, ◌-ℤ◌, ◌*ℤ◌, if◌then◌else◌, Option, List, [], ◌∷◌}
use Rattle.std.specs.Int.{int_div_euclid}
use Rattle.std.specs.Option.{option_map}
use Rattle.spv_base.specs.Entries.{reads}
use Rattle.spv_base.specs.Cell.{Cell}
use Rattle.spv_alu.specs.Integers.{signed}
use Rattle.spv_alu.specs.Results.{integer, defined_if}
use Rattle.spv_alu.specs.declared.extended_op.ExtendedOp.{ExtendedOp}
use Rattle.spv_alu.specs.declared.extended_op.ExtendedOp.TheVariants.{IAddCarry, ISubBorrow, UMulExtended, SMulExtended}

-- the table: the two integers, of which the low-order bits are the result, from the operands' width and bits.
-- The second is the carry, the borrow, or the part of the product above its low-order bits.
unfoldable pub extended_row : ExtendedOp → ℕ → ℕ → ℕ → ℤ × ℤ
extended_row IAddCarry w a b = (pos (a + b), pos ((a + b) / 2 ^ w))
extended_row ISubBorrow w a b = (pos a -ℤ pos b, pos (if nat_lt a b then 1 else 0))
extended_row UMulExtended w a b = (pos (a * b), pos (a * b / 2 ^ w))
extended_row SMulExtended w a b = (signed w a *ℤ signed w b, int_div_euclid (signed w a *ℤ signed w b) (pos (2 ^ w)))

-- the results at operands with the bits a and b
abbrev pub extended_results : ExtendedOp → ℕ → ℕ → ℕ → Cell × Cell
extended_results op w a b = (integer w (extended_row op w a b).0, integer w (extended_row op w a b).1)

-- the operation on a lane: not defined where an operand isn't
abbrev pub extended_lanes : ExtendedOp → Cell → Cell → Cell × Cell
extended_lanes op a b =
    let results = extended_results op a.width a.bits b.bits in
    (defined_if (a.defined && b.defined) results.0, defined_if (a.defined && b.defined) results.1)

-- each operation under its opcode
abbrev pub extended_opcodes : List (ℕ × ExtendedOp)
extended_opcodes =
    (149, IAddCarry) ∷ (150, ISubBorrow) ∷ (151, UMulExtended) ∷ (152, SMulExtended) ∷ []

-- the operation of an opcode
unfoldable pub extended_op : ℕ → Option ExtendedOp
extended_op number = reads number extended_opcodes

-- the operation of an opcode on a lane, if the opcode is one of them
unfoldable pub extended_of : ℕ → Cell → Cell → Option (Cell × Cell)
extended_of number a b = option_map (λ op. extended_lanes op a b) (extended_op number)
