use Rattle.std.proofs.Common.{◌≡◌, ◌≤◌, ℕ, drop, length, eqb}
use Rattle.std.specs.Option.{unwrap_or}
use Rattle.std.specs.Ordering.{nat_cmp}
use Rattle.std.specs.List.{count_by}
use Rattle.std.specs.BTreeMap as tree
use Rattle.spv_cfg.proofs.edges.counts_of.Given as goal

-- the edges from place i on are counted
abbrev pub invariant-back : goal.invariant-back
invariant-back l = record {
  small : l.i ≤ length l.edges;
  counted : (target : ℕ) → unwrap_or (tree.get nat_cmp l.counts target) 0 ≡ count_by (λ edge. eqb edge.0 target) (drop l.i l.edges);
}

abbrev pub decreases-back : goal.decreases-back
decreases-back l = l.i
