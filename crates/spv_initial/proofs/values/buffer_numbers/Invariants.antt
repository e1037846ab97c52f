use Rattle.std.proofs.Common.{◌≡◌, ◌≤◌, ℕ, drop, length, slice_get}
use Rattle.std.specs.BTreeMap.{get}
use Rattle.std.specs.List.{find}
use Rattle.std.specs.Option.{option_and_then}
use Rattle.spv_index.specs.Keys.{pair_cmp}
use Rattle.spv_fit.specs.Given.{is_bound}
use Rattle.spv_initial.proofs.values.buffer_numbers.Given as goal

-- the buffers from number n on are in the map
abbrev pub invariant-back : goal.invariant-back
invariant-back l = record {
  within : l.n ≤ length l.buffers;
  found : (set binding : ℕ) → option_and_then (slice_get l.buffers) (get pair_cmp l.map (set, binding)) ≡ find (is_bound set binding) (drop l.n l.buffers);
}

abbrev pub decreases-back : goal.decreases-back
decreases-back l = l.n
