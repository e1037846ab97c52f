use Rattle.std.proofs.Common.{◌≡◌, ◌≤◌, ℕ, drop, length}
use Rattle.std.specs.BTreeMap.{get}
use Rattle.spv_index.specs.Definitions.{decorates_member, number_from}
use Rattle.spv_index.specs.Keys.{triple_cmp}
use Rattle.spv_index.proofs.decorations.member_decorations_of.Given as goal

-- the instructions from number n on are in the map
abbrev pub invariant-back : goal.invariant-back
invariant-back l = record {
  within : l.n ≤ length l.insts;
  found : (id member kind : ℕ) → get triple_cmp l.map (id, member, kind) ≡ number_from l.n (decorates_member id member kind) (drop l.n l.insts);
}

abbrev pub decreases-back : goal.decreases-back
decreases-back l = l.n
