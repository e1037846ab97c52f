-- The binary operations on one lane, each with its row (SPIR-V 1.6, sections "Arithmetic Instructions", "Bit Instructions" and
-- "Relational and Logical Instructions").
use Rattle.std.specs.Prelude.{◌≡◌, ℕ, ◌-◌, ◌*◌, ◌/◌, ◌%◌, ◌^◌, ◌==◌, nat_lt, nat_le, not, ◌&&◌, ◌||◌, Bool, ℤ, pos, ◌+ℤ◌, ◌-ℤ◌, ◌*ℤ◌, int_lt, int_le, int_div, int_rem, bit_and, bit_or, bit_xor, Option, IsSomeAnd, List, [], ◌∷◌}
use Rattle.std.specs.Option.{option_map}
use Rattle.std.specs.Int.{int_div_euclid}
use Rattle.spv_base.specs.Entries.{reads}
use Rattle.spv_base.specs.Cell.{Cell}
use Rattle.spv_alu.specs.Integers.{IsWidth, signed, int_mod}
use Rattle.spv_alu.specs.Results.{integer, truth, defined_if}
use Rattle.spv_alu.specs.declared.binary_op.BinaryOp.{BinaryOp}
use Rattle.spv_alu.specs.declared.binary_op.BinaryOp.TheVariants.{IAdd, ISub, IMul, UDiv, SDiv, UMod, SRem, SMod, LogicalEqual, LogicalNotEqual, LogicalOr, LogicalAnd, IEqual, INotEqual, UGreaterThan, SGreaterThan, UGreaterThanEqual, SGreaterThanEqual, ULessThan, SLessThan, ULessThanEqual, SLessThanEqual, ShiftRightLogical, ShiftRightArithmetic, ShiftLeftLogical, BitwiseOr, BitwiseXor, BitwiseAnd}

-- what kind of operation it is, and what it gives of the bits of two operands
pub data BinaryRow : Type 0 where
  -- an integer of the operands' width
  arithmetic : (ℕ → ℕ → ℤ) → BinaryRow
  -- the same; not defined where the second operand is 0
  unsigned_division : (ℕ → ℕ → ℤ) → BinaryRow
  -- an integer from the operands read as signed; not defined where the second is 0, nor at the least integer by minus one
  signed_division : (ℤ → ℤ → ℤ) → BinaryRow
  -- a Boolean from two Booleans, of which true has the bits 1
  logical : (ℕ → ℕ → Bool) → BinaryRow
  -- a Boolean from two integers of one width
  unsigned_comparison : (ℕ → ℕ → Bool) → BinaryRow
  -- the same, from the integers read as signed
  signed_comparison : (ℤ → ℤ → Bool) → BinaryRow
  -- an integer of the first operand's width, from that width, that operand and a number of places; not defined from the width on
  shift : (ℕ → ℕ → ℕ → ℤ) → BinaryRow

-- the table: a row for each operation
unfoldable pub binary_row : BinaryOp → BinaryRow
binary_row IAdd = arithmetic (λ a b. pos a +ℤ pos b)
binary_row ISub = arithmetic (λ a b. pos a -ℤ pos b)
binary_row IMul = arithmetic (λ a b. pos a *ℤ pos b)
binary_row UDiv = unsigned_division (λ a b. pos (a / b))
binary_row SDiv = signed_division int_div
binary_row UMod = unsigned_division (λ a b. pos (a % b))
binary_row SRem = signed_division int_rem
binary_row SMod = signed_division int_mod
binary_row LogicalEqual = logical (λ a b. a == b)
binary_row LogicalNotEqual = logical (λ a b. not (a == b))
binary_row LogicalOr = logical (λ a b. a == 1 || b == 1)
binary_row LogicalAnd = logical (λ a b. a == 1 && b == 1)
binary_row IEqual = unsigned_comparison (λ a b. a == b)
binary_row INotEqual = unsigned_comparison (λ a b. not (a == b))
binary_row UGreaterThan = unsigned_comparison (λ a b. nat_lt b a)
binary_row SGreaterThan = signed_comparison (λ a b. int_lt b a)
binary_row UGreaterThanEqual = unsigned_comparison (λ a b. nat_le b a)
binary_row SGreaterThanEqual = signed_comparison (λ a b. int_le b a)
binary_row ULessThan = unsigned_comparison (λ a b. nat_lt a b)
binary_row SLessThan = signed_comparison (λ a b. int_lt a b)
binary_row ULessThanEqual = unsigned_comparison (λ a b. nat_le a b)
binary_row SLessThanEqual = signed_comparison (λ a b. int_le a b)
binary_row ShiftRightLogical = shift (λ w a places. pos (a / 2 ^ places))
binary_row ShiftRightArithmetic = shift (λ w a places. int_div_euclid (signed w a) (pos (2 ^ places)))
binary_row ShiftLeftLogical = shift (λ w a places. pos (a * 2 ^ places))
binary_row BitwiseOr = arithmetic (λ a b. pos (bit_or a b))
binary_row BitwiseXor = arithmetic (λ a b. pos (bit_xor a b))
binary_row BitwiseAnd = arithmetic (λ a b. pos (bit_and a b))

-- the widths that the operands may have
abbrev pub BinaryWidths : BinaryRow → ℕ → ℕ → Type 0
BinaryWidths (arithmetic f) v w = IsWidth v × (w ≡ v)
BinaryWidths (unsigned_division f) v w = IsWidth v × (w ≡ v)
BinaryWidths (signed_division f) v w = IsWidth v × (w ≡ v)
BinaryWidths (logical f) v w = (v ≡ 1) × (w ≡ 1)
BinaryWidths (unsigned_comparison f) v w = IsWidth v × (w ≡ v)
BinaryWidths (signed_comparison f) v w = IsWidth v × (w ≡ v)
BinaryWidths (shift f) v w = IsWidth v × IsWidth w

-- the width of the result, from that of the first operand
abbrev pub binary_width : BinaryRow → ℕ → ℕ
binary_width (arithmetic f) w = w
binary_width (unsigned_division f) w = w
binary_width (signed_division f) w = w
binary_width (logical f) w = 1
binary_width (unsigned_comparison f) w = 1
binary_width (signed_comparison f) w = 1
binary_width (shift f) w = w

-- there is a quotient of a by b, both read as signed: b isn't 0, and they aren't the least integer and minus one
abbrev pub has_quotient : ℕ → ℕ → ℕ → Bool
has_quotient w a b = not (b == 0) && not (a == 2 ^ (w - 1) && b == 2 ^ w - 1)

-- the result at operands with the bits a and b, where w is the width of the first
abbrev pub binary_result : BinaryRow → ℕ → ℕ → ℕ → Cell
binary_result (arithmetic f) w a b = integer w (f a b)
binary_result (unsigned_division f) w a b = defined_if (not (b == 0)) (integer w (f a b))
binary_result (signed_division f) w a b = defined_if (has_quotient w a b) (integer w (f (signed w a) (signed w b)))
binary_result (logical f) w a b = truth (f a b)
binary_result (unsigned_comparison f) w a b = truth (f a b)
binary_result (signed_comparison f) w a b = truth (f (signed w a) (signed w b))
binary_result (shift f) w a b = defined_if (nat_lt b w) (integer w (f w a b))

-- the operation on a lane: not defined where an operand isn't
abbrev pub binary_lane : BinaryOp → Cell → Cell → Cell
binary_lane op a b = defined_if (a.defined && b.defined) (binary_result (binary_row op) a.width a.bits b.bits)

-- each operation under its opcode
abbrev pub binary_opcodes : List (ℕ × BinaryOp)
binary_opcodes =
    (128, IAdd) ∷ (130, ISub) ∷ (132, IMul) ∷ (134, UDiv) ∷ (135, SDiv) ∷ (137, UMod) ∷ (138, SRem) ∷ (139, SMod) ∷
    (164, LogicalEqual) ∷ (165, LogicalNotEqual) ∷ (166, LogicalOr) ∷ (167, LogicalAnd) ∷ (170, IEqual) ∷
    (171, INotEqual) ∷ (172, UGreaterThan) ∷ (173, SGreaterThan) ∷ (174, UGreaterThanEqual) ∷
    (175, SGreaterThanEqual) ∷ (176, ULessThan) ∷ (177, SLessThan) ∷ (178, ULessThanEqual) ∷ (179, SLessThanEqual) ∷
    (194, ShiftRightLogical) ∷ (195, ShiftRightArithmetic) ∷ (196, ShiftLeftLogical) ∷ (197, BitwiseOr) ∷
    (198, BitwiseXor) ∷ (199, BitwiseAnd) ∷ []

-- the binary operation of an opcode
unfoldable pub binary_op : ℕ → Option BinaryOp
binary_op number = reads number binary_opcodes

-- the widths that a binary operation may be called at, by its opcode
abbrev pub BinaryFits : ℕ → ℕ → ℕ → Type 0
BinaryFits number v w = IsSomeAnd (binary_op number) (λ op. BinaryWidths (binary_row op) v w)

-- the width of its result, from that of the first operand
unfoldable pub binary_width_of : ℕ → ℕ → Option ℕ
binary_width_of number w = option_map (λ op. binary_width (binary_row op) w) (binary_op number)

-- the operation of an opcode on a lane, if the opcode is one of them
unfoldable pub binary_of : ℕ → Cell → Cell → Option Cell
binary_of number a b = option_map (λ op. binary_lane op a b) (binary_op number)
