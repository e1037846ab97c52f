-- The extended instructions of GLSL.std.450 on one lane of integers.
use Rattle.std.specs.Prelude.{ℕ, ◌-◌, ◌^◌, min, max, ◌==◌, ◌&&◌, Bool, ℤ, pos, negsuc, int_lt, int_le, unsigned_abs, if◌then◌else◌, Option, List, [], ◌∷◌}
use Rattle.std.specs.Int.{int_min, int_max, int_signum}
use Rattle.std.specs.Int.Count.{count_leading_zeros, count_trailing_zeros}
use Rattle.std.specs.Option.{option_map}
use Rattle.spv_base.specs.Entries.{reads}
use Rattle.spv_base.specs.Cell.{Cell}
use Rattle.spv_alu.specs.Integers.{signed}
use Rattle.spv_alu.specs.Results.{integer, defined_if}
use Rattle.spv_alu.specs.declared.glsl_op.GlslOp.{GlslOp}
use Rattle.spv_alu.specs.declared.glsl_op.GlslOp.TheVariants.{SAbs, SSign, UMin, SMin, UMax, SMax, UClamp, SClamp, FindILsb, FindSMsb, FindUMsb}

-- how many operands there are, and what the operation gives of their width and bits
pub data GlslRow : Type 0 where
  of_one : (ℕ → ℕ → ℤ) → GlslRow
  of_two : (ℕ → ℕ → ℕ → ℤ) → GlslRow
  -- the least of the third operand and the greatest of the first two, all read in one way; not defined where the second is above the third
  clamp : (ℕ → ℕ → ℤ) → GlslRow

-- the number of the highest bit that is 1, or -1
abbrev pub highest_one : ℕ → ℕ → ℤ
highest_one w n = if n == 0 then negsuc 0 else pos (w - 1 - count_leading_zeros w n)

-- the number of the lowest bit that is 1, or -1
abbrev pub lowest_one : ℕ → ℕ → ℤ
lowest_one w n = if n == 0 then negsuc 0 else pos (count_trailing_zeros w n)

-- the table: a row for each operation
unfoldable pub glsl_row : GlslOp → GlslRow
glsl_row SAbs = of_one (λ w n. pos (unsigned_abs (signed w n)))
glsl_row SSign = of_one (λ w n. int_signum (signed w n))
glsl_row UMin = of_two (λ w a b. pos (min a b))
glsl_row SMin = of_two (λ w a b. int_min (signed w a) (signed w b))
glsl_row UMax = of_two (λ w a b. pos (max a b))
glsl_row SMax = of_two (λ w a b. int_max (signed w a) (signed w b))
glsl_row UClamp = clamp (λ w n. pos n)
glsl_row SClamp = clamp signed
glsl_row FindILsb = of_one lowest_one
glsl_row FindSMsb = of_one (λ w n. highest_one w (if int_lt (signed w n) (pos 0) then 2 ^ w - 1 - n else n))
glsl_row FindUMsb = of_one highest_one

-- the result at operands of width w with the bits a, b and c, as many as there are
abbrev pub glsl_result : GlslRow → ℕ → ℕ → ℕ → ℕ → Cell
glsl_result (of_one f) w a b c = integer w (f w a)
glsl_result (of_two f) w a b c = integer w (f w a b)
glsl_result (clamp f) w a b c = defined_if (int_le (f w b) (f w c)) (integer w (int_min (int_max (f w a) (f w b)) (f w c)))

-- whether the operands that there are are defined
abbrev pub glsl_defined : GlslRow → Bool → Bool → Bool → Bool
glsl_defined (of_one f) a b c = a
glsl_defined (of_two f) a b c = a && b
glsl_defined (clamp f) a b c = a && b && c

-- the operation on a lane: not defined where an operand isn't
abbrev pub glsl_lane : GlslOp → Cell → Cell → Cell → Cell
glsl_lane op a b c =
    defined_if (glsl_defined (glsl_row op) a.defined b.defined c.defined) (glsl_result (glsl_row op) a.width a.bits b.bits c.bits)

-- each instruction under its number
abbrev pub glsl_numbers : List (ℕ × GlslOp)
glsl_numbers =
    (5, SAbs) ∷ (7, SSign) ∷ (38, UMin) ∷ (39, SMin) ∷ (41, UMax) ∷ (42, SMax) ∷ (44, UClamp) ∷ (45, SClamp) ∷
    (73, FindILsb) ∷ (74, FindSMsb) ∷ (75, FindUMsb) ∷ []

-- the operation of an instruction's number
unfoldable pub glsl_op : ℕ → Option GlslOp
glsl_op number = reads number glsl_numbers

-- the instruction of a number on a lane, if the number is one of them
unfoldable pub glsl_of : ℕ → Cell → Cell → Cell → Option Cell
glsl_of number a b c = option_map (λ op. glsl_lane op a b c) (glsl_op number)
