use Rattle.std.proofs.Common.{◌≡◌, ◌≤◌, ℕ, drop, length}
use Rattle.std.specs.BTreeMap.{get}
use Rattle.spv_index.specs.Definitions.{decorates, number_from}
use Rattle.spv_index.specs.Keys.{pair_cmp}
use Rattle.spv_index.proofs.decorations.decorations_of.Given as goal

-- the instructions from number n on are in the map
abbrev pub invariant-back : goal.invariant-back
invariant-back l = record { within : l.n ≤ length l.insts; found : (id kind : ℕ) → get pair_cmp l.map (id, kind) ≡ number_from l.n (decorates id kind) (drop l.n l.insts) }

abbrev pub decreases-back : goal.decreases-back
decreases-back l = l.n
