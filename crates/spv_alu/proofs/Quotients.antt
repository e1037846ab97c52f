-- Where integers of a width, read as signed, have a quotient of 64 bits.
use Rattle.std.proofs.Common.{◌≡◌, ℕ, zero, suc, ◌-◌, ◌*◌, ◌/◌, ◌^◌, ◌<◌, ◌≤◌, inl, inr, ℤ, pos, negsuc, neg_ℤ, refl, sym, ap, ◌∙◌, subst, arith, true, not, ◌==◌}
use Rattle.std.specs.Prelude.{FitsSigned, int_div, unsigned_abs}
use Rattle.std.specs.Int.{w64, CanDivide}
use Rattle.std.proofs.Math.Nat.{div-le_self, div-lt_iff_lt-mul}
use Rattle.std.proofs.Math.Pow.{pow_mono}
use Rattle.std.proofs.lemmas.Bool.{cases_lt, cases_eq, and_parts, not-true, eqb-false, eq-eqb, both_ways, and_from}
use Rattle.std.proofs.lemmas.Int.{ints, fits_signed_from_abs, quot_fits}
use Rattle.spv_alu.specs.Integers.{IsWidth, signed}
use Rattle.spv_alu.specs.Binary.{has_quotient}
use Rattle.spv_alu.proofs.Widths.{signed_low, signed_high, twice, pow_64}

abs-neg : (n : ℕ) → unsigned_abs (neg_ℤ (pos n)) ≡ n
abs-neg zero = refl
abs-neg (suc n) = refl

-- by a negative integer: all but the least by minus one
fits_by_negative : (a : ℤ) (m : ℕ) → FitsSigned w64 a → (a ≡ negsuc (2 ^ 63 - 1) → m ≡ 0 → ⊥) → FitsSigned w64 (int_div a (negsuc m))
fits_by_negative (pos n) m f e =
    let below : n < 2 ^ 63 = f.sfits in
    let less : n / suc m ≤ n = div-le_self n (suc m) in
    let size : unsigned_abs (neg_ℤ (pos (n / suc m))) ≡ n / suc m = abs-neg (n / suc m) in
    fits_signed_from_abs w64 (neg_ℤ (pos (n / suc m))) (omega arith)
fits_by_negative (negsuc n) m f e =
    let below : n < 2 ^ 63 = f.sfits in
    let room : suc n < 2 ^ 63 * suc m = elim (cases_eq m 0) [
      | inl z ↦
          let more : n ≡ 2 ^ 63 - 1 → ⊥ = λ same. e (ap negsuc same) z in
          omega arith
      | inr nz ↦ omega arith
    ] in
    record { sfits = (div-lt_iff_lt-mul {k = suc m} {x = suc n} {y = 2 ^ 63} (omega arith)).1 room }

-- the least integer of 64 bits is that of a width only where the width is 64
least_from_signed : (w x : ℕ) → IsWidth w → x < 2 ^ w → signed w x ≡ negsuc (2 ^ 63 - 1) → x ≡ 2 ^ (w - 1)
least_from_signed w x width below e =
    let whole : 2 ^ w ≡ 2 * 2 ^ (w - 1) = twice w width.0 in
    let half : w - 1 ≤ 63 = omega arith in
    let bound : 2 ^ (w - 1) ≤ 2 ^ 63 = pow_mono half in
    elim (cases_lt (2 * x) (2 ^ w)) [
      | inl low ↦
          let clash : pos x ≡ negsuc (2 ^ 63 - 1) = sym (signed_low w x low) ∙ e in
          absurd (omega (arith, ints))
      | inr high ↦
          let same : negsuc (2 ^ w - 1 - x) ≡ negsuc (2 ^ 63 - 1) = sym (signed_high w x high) ∙ e in
          omega (arith, ints)
    ]

-- the tests of the code, as facts
by_zero : (w x y : ℕ) → has_quotient w x y ≡ true → y ≡ 0 → ⊥
by_zero w x y h = eqb-false y 0 (not-true (y == 0) (and_parts _ _ h).0)

least_by_minus_one : (w x y : ℕ) → has_quotient w x y ≡ true → x ≡ 2 ^ (w - 1) → y ≡ 2 ^ w - 1 → ⊥
least_by_minus_one w x y h e f =
    both_ways _ (not-true _ (and_parts (not (y == 0)) _ h).1) (and_from _ _ (eq-eqb x (2 ^ (w - 1)) e) (eq-eqb y (2 ^ w - 1) f))

pub can_divide : (w x y : ℕ) → IsWidth w → x < 2 ^ w → y < 2 ^ w → has_quotient w x y ≡ true → FitsSigned w64 (signed w x) → CanDivide w64 (signed w x) (signed w y)
can_divide w x y width x_below y_below h fits =
    let nonzero : y ≡ 0 → ⊥ = by_zero w x y h in
    let bound : 2 ^ w ≤ 2 ^ 64 = pow_64 w width.1 in
    let P : ℤ → Type 0 = CanDivide w64 (signed w x) in
    elim (cases_lt (2 * y) (2 ^ w)) [
      | inl low ↦ subst P (sym (signed_low w y low)) (omega arith, quot_fits w64 (signed w x) (pos y) fits (omega (arith, ints)))
      | inr high ↦
          subst P (sym (signed_high w y high)) (
            omega arith,
            fits_by_negative (signed w x) (2 ^ w - 1 - y) fits (λ e z. least_by_minus_one w x y h (least_from_signed w x width x_below e) (omega arith)),
          )
    ]
