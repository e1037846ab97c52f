-- What the least and the greatest position that pass a test are.
use Rattle.std.proofs.Common.{◌≡◌, ℕ, suc, zero, ◌+◌, ◌-◌, ◌<◌, ◌≤◌, nat_lt, ◌&&◌, Bool, true, false, cond, unwrap_or, refl, sym, ap, ◌∙◌, subst, arith, Some, inl, inr, Option}
use Rattle.std.specs.Prelude.{find}
use Rattle.std.specs.List.{range_with_len}
use Rattle.std.proofs.lemmas.Bool.{and_parts, cases_lt, ltb-true}
use Rattle.spv_group.specs.Positions.{least_of, IsLeast, greatest_of, IsGreatest}

-- the first position, or a later one
first_or_later : (test : ℕ → Bool) (low k : ℕ) → low ≤ k → test low ≡ false → (low + 1 ≤ k → test k ≡ false) → test k ≡ false
first_or_later test low k g h later = elim (cases_lt low k) [ inl l ↦ later (omega arith) | inr l ↦ (let e : low ≡ k = omega arith in subst (λ n. test n ≡ false) e h) ]

least_with : (test : ℕ → Bool) (low high : ℕ) (found : Option ℕ) (b : Bool) → low < high → test low ≡ b → IsLeast test (low + 1) high (unwrap_or found high)
    → IsLeast test low high (unwrap_or (cond b (Some low) found) high)
least_with test low high found true l h r = record { from = omega arith; to = omega arith; passes = λ _. h; before = λ k g g'. absurd (omega arith) }
least_with test low high found false l h r =
    record { from = omega (arith, r.from); to = r.to; passes = r.passes; before = λ k g g'. first_or_later test low k g h (λ more. r.before k more g') }

least_find : (test : ℕ → Bool) (low count high : ℕ) → low + count ≡ high → IsLeast test low high (unwrap_or (find test (range_with_len low count)) high)
least_find test low zero high e = record { from = omega arith; to = omega arith; passes = λ h. absurd (omega arith); before = λ k h h'. absurd (omega arith) }
least_find test low (suc count) high e = least_with test low high (find test (range_with_len (low + 1) count)) (test low) (omega arith) refl (least_find test (low + 1) count high (omega arith))

pub least_is : (test : ℕ → Bool) (low high : ℕ) → low ≤ high → IsLeast test low high (least_of test low high)
least_is test low high h = least_find test low (high - low) high (omega arith)

-- the last position, or an earlier one
last_or_earlier : (test : ℕ → Bool) (low n m k : ℕ) → low ≤ m → m < k → k < suc n → (nat_lt low n && test n) ≡ false → ((j : ℕ) → m < j → j < n → test j ≡ false) → test k ≡ false
last_or_earlier test low n m k g h h' fails earlier = elim (cases_lt k n) [
  | inl l ↦ earlier k h l
  | inr l ↦ (
      let e : n ≡ k = omega arith in
      let above : low < n = omega arith in
      let tested : nat_lt low n ≡ true = grind arith in
      subst (λ j. test j ≡ false) e (sym (ap (λ b. b && test n) tested) ∙ fails))
]

greatest_with : (test : ℕ → Bool) (low n m : ℕ) (b : Bool) → (nat_lt low n && test n) ≡ b → IsGreatest test low n m → IsGreatest test low (suc n) (cond b n m)
greatest_with test low n m true e r =
    let both = and_parts (nat_lt low n) (test n) e in
    let above = ltb-true low n both.0 in
    record { from = omega arith; to = λ _. omega arith; passes = λ _. both.1; behind = λ k g g'. absurd (omega arith) }
greatest_with test low n m false e r =
    record { from = r.from; to = λ h. (let below = r.to h in omega arith); passes = r.passes; behind = λ k g g'. last_or_earlier test low n m k r.from g g' e r.behind }

pub greatest_is : (test : ℕ → Bool) (low high : ℕ) → IsGreatest test low high (greatest_of test low high)
greatest_is test low zero = record { from = omega arith; to = λ h. absurd (omega arith); passes = λ h. absurd (omega arith); behind = λ k h h'. absurd (omega arith) }
greatest_is test low (suc n) = greatest_with test low n (greatest_of test low n) (nat_lt low n && test n) refl (greatest_is test low n)
