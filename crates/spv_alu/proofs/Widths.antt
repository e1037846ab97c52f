-- Laws of the low-order bits of numbers and integers.
use Rattle.std.proofs.Common.{◌≡◌, ℕ, ◌+◌, ◌-◌, ◌*◌, ◌/◌, ◌%◌, ◌^◌, ◌<◌, ◌≤◌, ℤ, pos, negsuc, ◌+ℤ◌, ◌-ℤ◌, ◌*ℤ◌, refl, sym, ap, ◌∙◌, subst, arith, to_z, of_z, Bool, true, false, inl, inr}
use Rattle.std.proofs.Math.Nat.{mul_comm, div-lt_iff_lt-mul, lt_of_le_of_lt, mod-one}
use Rattle.std.proofs.Math.Pow.{pow_mono}
use Rattle.std.proofs.lemmas.Bool.{lt-ltb, le-ltb, cases_lt, ne_eqb}
use Rattle.spv_base.specs.Cell.{Cell, HasWidth}
use Rattle.spv_alu.specs.Results.{defined_if, integer, truth}
use Rattle.spv_alu.proofs.BitNumbers.{low_bits_below}
use Rattle.std.specs.Prelude.{unsigned_abs, suc, FitsSigned, if◌then◌else◌, ◌==◌}
use Rattle.std.specs.Int.{Width, int_div_euclid, cast_unsigned, w64, w128}
use Rattle.std.specs.Int.Signed.{mag_shr, shr_z, nat_abs-le}
use Rattle.std.proofs.lemmas.Int.{int_rem_euclid_is, ints, to_z-of_z, fits_signed_mul}
use Rattle.std.proofs.lemmas.Nat.{pow_pos, pow-add}
use Rattle.std.proofs.lemmas.Nat.Bits.{ones_shr}
use Rattle.std.proofs.Math.Pow.{mod-mod-pow}
use Rattle.spv_alu.specs.Integers.{low_bits, signed}

-- the greatest number of a width, as a shift of the greatest of 64 bits
pub greatest_shifted : (w : ℕ) → w ≤ 64 → 18446744073709551615 / 2 ^ (64 - w) ≡ 2 ^ w - 1
greatest_shifted w h =
    let bound : 64 - w ≤ 64 = omega arith in
    let back : 64 - (64 - w) ≡ w = omega arith in
    ones_shr 64 (64 - w) bound ∙ ap (λ k. 2 ^ k - 1) back

-- the low-order bits of a number modulo 2 ^ 64
pub low_of_64 : (n w : ℕ) → w ≤ 64 → n % 2 ^ 64 % 2 ^ w ≡ n % 2 ^ w
low_of_64 n w h =
    let whole : (64 - w) + w ≡ 64 = omega arith in
    let P : ℕ → Type 0 = λ k. n % 2 ^ k % 2 ^ w ≡ n % 2 ^ w in
    subst P whole (mod-mod-pow n (64 - w) w)

-- the low-order bits of an integer are those of the number that is a multiple of 2 ^ w away
pub low_bits_at : (w : ℕ) (z : ℤ) (k m : ℕ) → z +ℤ pos (k * 2 ^ w) ≡ pos m → low_bits w z ≡ m % 2 ^ w
low_bits_at w z k m h = ap unsigned_abs (int_rem_euclid_is z (pos (2 ^ w)) (2 ^ w) k m (pow_pos w) refl h)

-- the low-order bits of an integer from those of the number 2 ^ p above
pub low_bits_from_above : (p w : ℕ) (z : ℤ) (m : ℕ) → w ≤ p → z +ℤ pos (2 ^ p) ≡ pos m → low_bits w z ≡ m % 2 ^ w
low_bits_from_above p w z m h e =
    let all : (p - w) + w ≡ p = omega arith in
    let whole : 2 ^ (p - w) * 2 ^ w ≡ 2 ^ p = sym (pow-add 2 (p - w) w) ∙ ap (λ k. 2 ^ k) all in
    let P : ℕ → Type 0 = λ n. z +ℤ pos n ≡ pos m in
    low_bits_at w z (2 ^ (p - w)) m (subst P (sym whole) e)

pub low_bits_of_difference : (w x y : ℕ) → w ≤ 64 → y < 2 ^ 64 → (x + (2 ^ 64 - y)) % 2 ^ 64 % 2 ^ w ≡ low_bits w (pos x -ℤ pos y)
low_bits_of_difference w x y h k =
    low_of_64 (x + (2 ^ 64 - y)) w h
    ∙ sym (low_bits_from_above 64 w (pos x -ℤ pos y) (x + (2 ^ 64 - y)) h (omega (arith, ints)))

-- the low-order bits of a signed integer of 64 bits, or of 128, are those of its bits
pub low_bits_of_signed : (w : ℕ) (z : ℤ) → w ≤ 64 → FitsSigned w64 z → cast_unsigned w64 z % 2 ^ w ≡ low_bits w z
low_bits_of_signed w (pos n) h f = refl
low_bits_of_signed w (negsuc n) h f =
    let small : n < 2 ^ 63 = f.sfits in
    sym (low_bits_from_above 64 w (negsuc n) (2 ^ 64 - suc n) h (omega (arith, ints)))

pub low_bits_of_wide : (w : ℕ) (z : ℤ) → w ≤ 64 → FitsSigned w128 z → cast_unsigned w128 z % 2 ^ w ≡ low_bits w z
low_bits_of_wide w (pos n) h f = refl
low_bits_of_wide w (negsuc n) h f =
    let small : n < 2 ^ 127 = f.sfits in
    sym (low_bits_from_above 128 w (negsuc n) (2 ^ 128 - suc n) (omega arith) (omega (arith, ints)))

-- ---- readings as signed

pub signed_low : (w n : ℕ) → 2 * n < 2 ^ w → signed w n ≡ pos n
unfolding signed
signed_low w n h = rw (lt-ltb (2 * n) (2 ^ w) h) refl

pub signed_high : (w n : ℕ) → 2 ^ w ≤ 2 * n → signed w n ≡ negsuc (2 ^ w - 1 - n)
unfolding signed
signed_high w n h = rw (le-ltb (2 * n) (2 ^ w) h) refl

-- a number from 2 ^ 63 on, read as a signed integer of 64 bits
pub to_z_high : (m : ℕ) → 2 ^ 63 ≤ m → to_z w64 m ≡ negsuc (2 ^ 64 - suc m)
to_z_high m h = rw (le-ltb m (2 ^ 63) h) refl

pub pow_64 : (w : ℕ) → w ≤ 64 → 2 ^ w ≤ 2 ^ 64
pow_64 w h = pow_mono h

-- a power of two as twice the one before
pub twice : (w : ℕ) → 0 < w → 2 ^ w ≡ 2 * 2 ^ (w - 1)
twice w h =
    let next : (w - 1) + 1 ≡ w = omega arith in
    sym (ap (λ k. 2 ^ k) next) ∙ (pow-add 2 (w - 1) 1 ∙ mul_comm (2 ^ (w - 1)) 2)

pub low_half : (w n : ℕ) → 0 < w → n / 2 ^ (w - 1) ≡ 0 → 2 * n < 2 ^ w
low_half w n h e =
    let whole : 2 ^ w ≡ 2 * 2 ^ (w - 1) = twice w h in
    let below : n / 2 ^ (w - 1) < 1 = omega arith in
    let bound : n < 1 * 2 ^ (w - 1) = (div-lt_iff_lt-mul (pow_pos (w - 1))).0 below in
    omega arith

pub high_half : (w n : ℕ) → 0 < w → ¬ (n / 2 ^ (w - 1) ≡ 0) → 2 ^ w ≤ 2 * n
high_half w n h e =
    let whole : 2 ^ w ≡ 2 * 2 ^ (w - 1) = twice w h in
    elim (cases_lt n (1 * 2 ^ (w - 1))) [
      | inl below ↦ absurd (e (let small : n / 2 ^ (w - 1) < 1 = (div-lt_iff_lt-mul (pow_pos (w - 1))).1 below in omega arith))
      | inr above ↦ omega arith
    ]

-- ---- results

pub defined_if_true : (t : Bool) (l : Cell) → t ≡ true → defined_if t l ≡ l
defined_if_true t l h = rw h refl

-- ---- shifts of signed integers

shift_fits : (v : Width) (z : ℤ) (m : ℕ) → FitsSigned v z → FitsSigned v (shr_z z m)
shift_fits v z m f = record { sfits = lt_of_le_of_lt (mag_shr z m) f.sfits }

shift_is : (z : ℤ) (m : ℕ) → shr_z z m ≡ int_div_euclid z (pos m)
shift_is (pos n) m = refl
shift_is (negsuc n) m = refl

-- the code's shift of a signed integer
pub shifted_signed : (v : Width) (z x : ℤ) (m : ℕ) → FitsSigned v z → z ≡ x → to_z v (of_z v (shr_z (to_z v (of_z v z)) m)) ≡ int_div_euclid x (pos m)
shifted_signed v z x m f e =
    simp to_z-of_z (to_z-of_z v (shr_z z m) (shift_fits v z m f) ∙ (shift_is z m ∙ ap (λ y. int_div_euclid y (pos m)) e))

-- the code's shift of a product of 128 bits
pub shifted_product : (a b : ℤ) (m : ℕ) → FitsSigned w64 a → FitsSigned w64 b → to_z w128 (of_z w128 (shr_z (to_z w128 (of_z w128 (to_z w128 (of_z w128 (to_z w64 (of_z w64 a))) *ℤ to_z w128 (of_z w128 (to_z w64 (of_z w64 b)))))) m)) ≡ int_div_euclid (a *ℤ b) (pos m)
shifted_product a b m narrow_a narrow_b =
    let wide_a : FitsSigned w128 a = record { sfits = omega (arith, narrow_a.sfits) } in
    let wide_b : FitsSigned w128 b = record { sfits = omega (arith, narrow_b.sfits) } in
    let product : FitsSigned w128 (a *ℤ b) = fits_signed_mul w128 a b (2 ^ 63) (2 ^ 63) (nat_abs-le a narrow_a.sfits) (nat_abs-le b narrow_b.sfits) (omega arith) in
    let shifted : FitsSigned w128 (shr_z (a *ℤ b) m) = shift_fits w128 (a *ℤ b) m product in
    simp to_z-of_z (shift_is (a *ℤ b) m)

-- ---- tests

pub if_not_zero : (n : ℕ) (a b : ℤ) → (n ≡ 0 → ⊥) → (if n == 0 then a else b) ≡ b
if_not_zero n a b h = rw (ne_eqb n 0 h) refl

-- a number of no bits, read as signed
pub signed_of_none : (w n : ℕ) → w ≡ 0 → signed w (n % 2 ^ w) ≡ pos 0
signed_of_none w n e =
    let P : ℕ → Type 0 = λ k. signed k (n % 2 ^ k) ≡ pos 0 in
    subst P (sym e) (ap (signed 0) (mod-one n) ∙ signed_low 0 0 (omega arith))

-- ---- cells of a width

pub integer_has_width : (w : ℕ) (z : ℤ) → w ≤ 64 → HasWidth w (integer w z)
integer_has_width w z h = (refl, record { narrow = h; fits = low_bits_below w z; zero = λ e. absurd (cc) })

pub truth_has_width : (b : Bool) → HasWidth 1 (truth b)
truth_has_width true = (refl, record { narrow = omega arith; fits = omega arith; zero = λ e. absurd (cc) })
truth_has_width false = (refl, record { narrow = omega arith; fits = omega arith; zero = λ e. absurd (cc) })

pub defined_has_width : (test : Bool) (w : ℕ) (c : Cell) → HasWidth w c → HasWidth w (defined_if test c)
defined_has_width true w c h = h
defined_has_width false w c h = (h.0, record { narrow = h.1.narrow; fits = pow_pos c.width; zero = λ e. refl })
