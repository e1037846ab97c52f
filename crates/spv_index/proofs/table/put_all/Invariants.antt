use Rattle.std.proofs.Common.{◌≡◌, ◌≤◌, ℕ, drop, length}
use Rattle.std.specs.Ordering.{nat_cmp}
use Rattle.std.specs.BTreeMap as tree
use Rattle.spv_base.specs.Entries.{reads}
use Rattle.spv_index.specs.Tables.{found}
use Rattle.spv_index.proofs.table.put_all.Given as goal

-- the entries from place i on are found
abbrev pub invariant-back : goal.invariant-back
invariant-back g l = record {
  small : l.i ≤ length l.entries;
  found : (k : ℕ) → found l.low (tree.get nat_cmp l.high) k ≡ reads k (drop l.i l.entries);
}

abbrev pub decreases-back : goal.decreases-back
decreases-back g l = l.i
