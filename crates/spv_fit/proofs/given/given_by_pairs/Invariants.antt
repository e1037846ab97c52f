use Rattle.std.proofs.Common.{◌≡◌, ◌≤◌, ℕ, drop, length}
use Rattle.std.specs.BTreeMap.{get}
use Rattle.spv_index.specs.Keys.{pair_cmp}
use Rattle.spv_fit.specs.Given.{given_at}
use Rattle.spv_fit.proofs.given.given_by_pairs.Given as goal

-- the buffers from number n on are in the map
abbrev pub invariant-back : goal.invariant-back
invariant-back l = record {
  within : l.n ≤ length l.buffers;
  found : (set binding : ℕ) → get pair_cmp l.map (set, binding) ≡ given_at (drop l.n l.buffers) set binding;
}

abbrev pub decreases-back : goal.decreases-back
decreases-back l = l.n
