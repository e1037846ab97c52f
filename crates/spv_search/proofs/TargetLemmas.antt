-- The positions to which searches lead.
use Rattle.std.proofs.Common.{◌≡◌, ◌⊎◌, ◌≤◌, ◌<◌, ◌-◌, ℕ, Bool, true, false, ap, unwrap_or, inl, inr, arith}
use Rattle.std.specs.Prelude.{find}
use Rattle.std.specs.List.{range_with_len}
use Rattle.std.proofs.lemmas.Bool.{cases_lt}
use Rattle.spv_group.specs.Positions.{IsGreatest, IsLeast, greatest_of, least_of}
use Rattle.spv_group.proofs.Exports.{greatest_is, least_is}

no_both : (b : Bool) → b ≡ true → b ≡ false → ⊥
no_both true t f = absurd (cc)
no_both false t f = absurd (cc)

-- what passes first, or the high end where nothing does
pub least_found : (test : ℕ → Bool) (low high m : ℕ) → low ≤ m → m ≤ high → (m < high → test m ≡ true) → ((k : ℕ) → low ≤ k → k < m → test k ≡ false) → m ≡ least_of test low high
least_found test low high m above below passes before = by_order (cases_lt m n) (cases_lt n m)
  where
    n : ℕ
    n = least_of test low high

    is : IsLeast test low high n
    is = least_is test low high (omega arith)

    by_order : (m < n) ⊎ (n ≤ m) → (n < m) ⊎ (m ≤ n) → m ≡ n
    by_order (inl l) r = let to = is.to in absurd (no_both (test m) (passes (omega arith)) (is.before m above l))
    by_order (inr l) (inl r) = absurd (no_both (test n) (is.passes (omega arith)) (before n is.from r))
    by_order (inr l) (inr r) = omega arith

pub least_none : (test : ℕ → Bool) (low high : ℕ) → high ≤ low → least_of test low high ≡ high
least_none test low high h = let none : high - low ≡ 0 = omega arith in ap (λ n. unwrap_or (find test (range_with_len low n)) high) none

-- nothing passed up to a position
pub least_behind : (test : ℕ → Bool) (low high m : ℕ) → low ≤ high → m ≤ high → ((k : ℕ) → low ≤ k → k < m → test k ≡ false) → m ≤ least_of test low high
least_behind test low high m some below before = by_order (cases_lt n m)
  where
    n : ℕ
    n = least_of test low high

    is : IsLeast test low high n
    is = least_is test low high some

    by_order : (n < m) ⊎ (m ≤ n) → m ≤ n
    by_order (inl l) = absurd (no_both (test n) (is.passes (omega arith)) (before n is.from l))
    by_order (inr r) = r

pub greatest_found : (test : ℕ → Bool) (low high m : ℕ) → low ≤ m → (low < m → m < high) → (low < m → test m ≡ true) → ((k : ℕ) → m < k → k < high → test k ≡ false) → m ≡ greatest_of test low high
greatest_found test low high m above below passes behind = by_order (cases_lt m n) (cases_lt n m)
  where
    n : ℕ
    n = greatest_of test low high

    is : IsGreatest test low high n
    is = greatest_is test low high

    by_order : (m < n) ⊎ (n ≤ m) → (n < m) ⊎ (m ≤ n) → m ≡ n
    by_order (inl l) r = absurd (no_both (test n) (is.passes (omega arith)) (behind n l (is.to (omega arith))))
    by_order (inr l) (inl r) = let from = is.from in absurd (no_both (test m) (passes (omega arith)) (is.behind m r (below (omega arith))))
    by_order (inr l) (inr r) = omega arith

-- nothing passes from behind a position on
pub greatest_before : (test : ℕ → Bool) (low high m : ℕ) → low ≤ m → ((k : ℕ) → m < k → k < high → test k ≡ false) → greatest_of test low high ≤ m
greatest_before test low high m above behind = by_order (cases_lt m n)
  where
    n : ℕ
    n = greatest_of test low high

    is : IsGreatest test low high n
    is = greatest_is test low high

    by_order : (m < n) ⊎ (n ≤ m) → n ≤ m
    by_order (inl l) = absurd (no_both (test n) (is.passes (omega arith)) (behind n l (is.to (omega arith))))
    by_order (inr r) = r
