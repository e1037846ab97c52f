use Rattle.std.proofs.Common.{◌≡◌, ◌<◌, ◌≤◌, ℕ, drop, length}
use Rattle.spv_index.specs.Firsts.{first_from, slot}
use Rattle.spv_index.proofs.firsts.first_numbers.Given as goal

-- the keys from number n on have their places
abbrev pub invariant-back : goal.invariant-back
invariant-back l = record {
  within : l.n ≤ length l.keys;
  all : length l.numbers.items ≡ length l.initial.numbers.items;
  firsts : (key : ℕ) → key < length l.numbers.items → slot l.numbers.items key ≡ first_from l.n (drop l.n l.keys) key;
}

abbrev pub decreases-back : goal.decreases-back
decreases-back l = l.n
