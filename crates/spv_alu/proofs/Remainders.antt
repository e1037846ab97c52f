-- The remainder that has the sign of the divisor, from the one that is not negative.
use Rattle.std.proofs.Common.{◌≡◌, ℕ, zero, suc, ◌%◌, ◌<◌, ◌⊎◌, inl, inr, ℤ, pos, negsuc, neg_ℤ, ◌+ℤ◌, refl, sym, ap, ◌∙◌, arith, true, false}
use Rattle.std.specs.Prelude.{int_lt}
use Rattle.std.specs.Int.{int_rem_euclid}
use Rattle.std.proofs.Math.Nat.{suc-mod, mod_self, mod-eq_of_lt, zero-mod}
use Rattle.std.proofs.lemmas.Bool.{cases_eq, ltb-true}
use Rattle.std.proofs.lemmas.Int.{ints}
use Rattle.std.proofs.lemmas.Nat.{mod_below}
use Rattle.spv_alu.specs.Integers.{int_mod}

-- the remainder of the next number: back to 0, or one more
pub next_remainder : (n m : ℕ) → ((suc n % suc m ≡ 0) × (n % suc m ≡ m)) ⊎ ((suc n % suc m ≡ suc (n % suc m)) × (n % suc m < m))
next_remainder n m =
    let below : n % suc m < suc m = mod_below n (suc m) (omega arith) in
    elim (cases_eq (n % suc m) m) [
      | inl e ↦ inl (suc-mod n (suc m) ∙ (ap (λ k. suc k % suc m) e ∙ mod_self (suc m)), e)
      | inr ne ↦
          let less : suc (n % suc m) < suc m = omega arith in
          inr (suc-mod n (suc m) ∙ mod-eq_of_lt less, omega arith)
    ]

-- of a divisor that isn't negative
pub mod_above : (x d : ℤ) → int_lt d (pos 0) ≡ false → int_rem_euclid x d ≡ int_mod x d
mod_above x (pos d) h = refl
mod_above x (negsuc d) h = cc

-- of a negative one: 0, or the divisor more
pub mod_below_zero : (x : ℤ) (m : ℕ) → ((int_rem_euclid x (negsuc m) ≡ pos 0) × (int_mod x (negsuc m) ≡ pos 0)) ⊎ ((int_rem_euclid x (negsuc m) ≡ pos 0 → ⊥) × (int_rem_euclid x (negsuc m) +ℤ negsuc m ≡ int_mod x (negsuc m)))
mod_below_zero (pos zero) m = inl (ap pos (zero-mod (suc m)), ap (λ k. neg_ℤ (pos k)) (zero-mod (suc m)))
mod_below_zero (pos (suc b)) m =
    elim (next_remainder b m) [
      | inl h ↦ inl (ap pos h.0, omega (arith, ints))
      | inr h ↦ inr (λ e. omega (arith, ints), omega (arith, ints))
    ]
mod_below_zero (negsuc a) m =
    elim (next_remainder a m) [
      | inl h ↦ inl (omega (arith, ints), omega (arith, ints))
      | inr h ↦ inr (λ e. omega (arith, ints), omega (arith, ints))
    ]

pub mod_negative_zero : (x d : ℤ) → int_lt d (pos 0) ≡ true → int_rem_euclid x d ≡ pos 0 → int_rem_euclid x d ≡ int_mod x d
mod_negative_zero x (pos d) h e = refl
mod_negative_zero x (negsuc m) h e =
    elim (mod_below_zero x m) [ inl k ↦ k.0 ∙ sym k.1 | inr k ↦ absurd (k.0 e) ]

pub mod_negative : (x d : ℤ) → int_lt d (pos 0) ≡ true → (int_rem_euclid x d ≡ pos 0 → ⊥) → int_rem_euclid x d +ℤ d ≡ int_mod x d
mod_negative x (pos d) h e = absurd (omega (arith, ltb-true d 0 h))
mod_negative x (negsuc m) h e =
    elim (mod_below_zero x m) [ inl k ↦ absurd (e k.0) | inr k ↦ k.1 ]
