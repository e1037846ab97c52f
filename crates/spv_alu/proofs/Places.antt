-- The places of the lowest and the highest 1 of a number, whatever the width that it is read at.
use Rattle.std.proofs.Common.{◌≡◌, ℕ, zero, suc, ◌+◌, ◌-◌, ◌/◌, ◌%◌, ◌^◌, ◌<◌, ◌≤◌, inl, inr, refl, ap, arith}
use Rattle.std.specs.Int.Count.{count_leading_zeros, count_trailing_zeros, under}
use Rattle.std.proofs.Math.Nat.{pow-suc, div-lt_iff_lt-mul}
use Rattle.std.proofs.Math.Pow.{pow_mono}
use Rattle.std.proofs.lemmas.Bool.{cases_eq, cases_order}
use Rattle.std.proofs.lemmas.Nat.{leading_top}

-- the place of the highest 1, counted from the top of v bits and of w
pub highest_same : (v w n : ℕ) → 0 < n → n < 2 ^ v → n < 2 ^ w → v - 1 - count_leading_zeros v n ≡ w - 1 - count_leading_zeros w n
highest_same v w n positive below_v below_w =
    let first = leading_top v n positive below_v in
    let second = leading_top w n positive below_w in
    let j = first.0 in
    let k = second.0 in
    let one : count_leading_zeros v n + suc j ≡ v = first.1 in
    let other : count_leading_zeros w n + suc k ≡ w = second.1 in
    elim (cases_order j k) [
      | inl e ↦ omega arith
      | inr apart ↦
          elim apart [
            | inl less ↦
                let more : 2 ^ suc j ≤ 2 ^ k = pow_mono less in
                let above : 2 ^ k ≤ n = second.2 in
                let below : n < 2 ^ suc j = first.3 in
                absurd (omega arith)
            | inr less ↦
                let more : 2 ^ suc k ≤ 2 ^ j = pow_mono less in
                let above : 2 ^ j ≤ n = first.2 in
                let below : n < 2 ^ suc k = second.3 in
                absurd (omega arith)
          ]
    ]

-- a positive number of w bits has its lowest 1 among these
pub lowest_same : (w v n : ℕ) → 0 < n → n < 2 ^ w → w ≤ v → count_trailing_zeros v n ≡ count_trailing_zeros w n
unfolding count_trailing_zeros
lowest_same zero v n positive below h = absurd (omega arith)
lowest_same (suc w) zero n positive below h = absurd (omega arith)
lowest_same (suc w) (suc v) n positive below h =
    elim (cases_eq (n % 2) 0) [
      | inl even ↦
          let half : n / 2 < 2 ^ w = (div-lt_iff_lt-mul {k = 2} (omega arith)).1 (omega (arith, pow-suc 2 w)) in
          ap (under (n % 2)) (lowest_same w v (n / 2) (omega arith) half (omega arith))
      | inr odd ↦
          let one : n % 2 ≡ 1 = omega arith in
          rw one refl
    ]
