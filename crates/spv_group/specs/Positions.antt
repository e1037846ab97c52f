-- The least and the greatest position that pass a test.
use Rattle.std.specs.Prelude.{◌≡◌, ℕ, zero, suc, ◌-◌, ◌<◌, ◌≤◌, nat_lt, ◌&&◌, Bool, true, false, if◌then◌else◌, find, unwrap_or}
use Rattle.std.specs.List.{range_with_len}

-- the least position from low on that passes, or high where none below it does
abbrev pub least_of : (ℕ → Bool) → ℕ → ℕ → ℕ
least_of test low high = unwrap_or (find test (range_with_len low (high - low))) high

pub record IsLeast (test : ℕ → Bool) (low high m : ℕ) : Type 0 where
  pub from : low ≤ m
  pub to : m ≤ high
  pub passes : m < high → test m ≡ true
  pub before : (k : ℕ) → low ≤ k → k < m → test k ≡ false

-- the greatest position above low and below high that passes, or low where none does
abbrev pub greatest_of : (ℕ → Bool) → ℕ → ℕ → ℕ
greatest_of test low zero = low
greatest_of test low (suc n) = if nat_lt low n && test n then n else greatest_of test low n

pub record IsGreatest (test : ℕ → Bool) (low high m : ℕ) : Type 0 where
  pub from : low ≤ m
  pub to : low < m → m < high
  pub passes : low < m → test m ≡ true
  pub behind : (k : ℕ) → m < k → k < high → test k ≡ false
