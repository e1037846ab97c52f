-- Lanes that are scalars of a width: blank ones, literals, overrides and Booleans.
use Rattle.std.proofs.Common.{◌≡◌, ℕ, ◌≤◌, min, Bool, true, false, ℤ, refl, arith}
use Rattle.std.proofs.lemmas.Nat.{pow_pos}
use Rattle.spv_base.specs.Cell.{IsCell, Cell, undefined_cell}
use Rattle.spv_base.specs.declared.values.Value.{Scalar}
use Rattle.spv_base.proofs.Exports.{out_scalar}
use Rattle.spv_alu.proofs.Exports.{low_bits_below}
use Rattle.spv_types.specs.Shapes.{IsScalar}
use Rattle.spv_alu.specs.Results.{integer, truth}
use Rattle.spv_consts.specs.Values.{blank_cell}

-- ---- tests and numbers

-- ---- lanes

pub is_scalar : (c : Cell) (width : ℕ) → c.width ≡ width → IsCell c → IsScalar width (Scalar c)
is_scalar c width same lane = rw out_scalar (same, lane)

-- a lane of zeros
pub blank_is_lane : (defined : Bool) (width : ℕ) → IsCell (blank_cell defined width)
blank_is_lane defined width = record {
  narrow = omega arith;
  fits = pow_pos (min width 64);
  zero = λ _. refl;
}

pub integer_is_lane : (width : ℕ) (z : ℤ) → width ≤ 64 → IsCell (integer width z)
integer_is_lane width z narrow = record {
  narrow = narrow;
  fits = low_bits_below width z;
  zero = λ e. absurd (cc);
}

pub truth_is_lane : (b : Bool) → IsCell (truth b)
truth_is_lane true = record { narrow = omega arith; fits = omega arith; zero = λ e. absurd (cc) }
truth_is_lane false = record { narrow = omega arith; fits = omega arith; zero = λ _. refl }

pub undefined_is_lane : IsCell (undefined_cell 1)
undefined_is_lane = record { narrow = omega arith; fits = omega arith; zero = λ _. refl }
