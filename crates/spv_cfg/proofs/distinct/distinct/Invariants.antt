use Rattle.std.proofs.Common.{◌≡◌, ◌≤◌, ℕ, drop, length, eqb}
use Rattle.std.specs.Ordering.{nat_cmp}
use Rattle.std.specs.List.{list_any}
use Rattle.std.specs.BTreeSet as sorted
use Rattle.spv_cfg.specs.Phis.{distinct}
use Rattle.spv_cfg.proofs.distinct.distinct.Given as goal

-- what was seen are the numbers from place i on
abbrev pub invariant-back : goal.invariant-back
invariant-back l = record {
  small : l.i ≤ length l.numbers;
  seen : (k : ℕ) → sorted.contains nat_cmp l.seen k ≡ list_any (λ n. eqb n k) (drop l.i l.numbers);
  distinct : l.distinct.items ≡ distinct (drop l.i l.numbers);
}

abbrev pub decreases-back : goal.decreases-back
decreases-back l = l.i
