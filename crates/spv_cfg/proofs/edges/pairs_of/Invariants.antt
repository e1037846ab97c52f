use Rattle.std.proofs.Common.{◌≡◌, ◌≤◌, ◌&&◌, ℕ, drop, length, eqb}
use Rattle.std.specs.Ordering.{nat_cmp, ordering_then}
use Rattle.std.specs.List.{list_any}
use Rattle.std.specs.BTreeSet as sorted
use Rattle.spv_cfg.proofs.edges.pairs_of.Given as goal

-- the edges from place i on are in the set
abbrev pub invariant-back : goal.invariant-back
invariant-back l = record {
  small : l.i ≤ length l.edges;
  found : (target source : ℕ) → sorted.contains (λ x y. ordering_then (nat_cmp x.0 y.0) (nat_cmp x.1 y.1)) l.pairs (target, source)
      ≡ list_any (λ edge. eqb edge.0 target && eqb edge.1 source) (drop l.i l.edges);
}

abbrev pub decreases-back : goal.decreases-back
decreases-back l = l.i
