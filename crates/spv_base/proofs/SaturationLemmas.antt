-- Arithmetic on saturated numbers.
use Rattle.std.proofs.Common.{◌≡◌, ℕ, zero, suc, ◌<◌, ◌+◌, ◌-◌, ◌*◌, ◌^◌, refl, arith, inl, inr}
use Rattle.std.specs.Prelude.{min}
use Rattle.std.proofs.lemmas.Bool.{cases_lt}
use Rattle.spv_base.specs.Saturation.{saturated}

-- a number that fits
pub unsaturated : (n : ℕ) → n < 2 ^ 64 → saturated n ≡ n
unsaturated n lt = omega arith

pub saturated-add : (a b : ℕ) → min (saturated a + saturated b) (2 ^ 64 - 1) ≡ saturated (a + b)
saturated-add a b = omega arith

pub saturated-mul : (a n : ℕ) → min (saturated a * n) (2 ^ 64 - 1) ≡ saturated (a * n)
saturated-mul a zero = omega arith
saturated-mul a (suc n) = general (2 ^ 64 - 1) a n
  where
    general : (m a n : ℕ) → min (min a m * suc n) m ≡ min (a * suc n) m
    general m a n =
        elim (cases_lt m a) [
          | inl less ↦ let e : min a m ≡ m = omega arith in rw e (omega arith)
          | inr rest ↦ let e : min a m ≡ a = omega arith in rw e refl
        ]
