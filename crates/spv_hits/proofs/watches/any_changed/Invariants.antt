use Rattle.std.proofs.Common.{◌≡◌, ℕ, Some, false, slice_get, take, true}
use Rattle.std.specs.List.{list_any}
use Rattle.spv_group.specs.Group.{Held, state_in}
use Rattle.spv_hits.specs.Kept.{AllLie, AreAlike, differs, watched_by}
use Rattle.spv_hits.proofs.watches.any_changed.Given as goal

abbrev pub invariant-loop-n : goal.invariant-loop-n
invariant-loop-n l = record {
  marks : (m : ℕ) → slice_get l.marks m ≡ Some true → slice_get l.fn.marks m ≡ Some true;
  none : (o : Held) → l.kept ≡ watched_by l.tables l.watches o → AllLie l.tables l.watches l.places o → (l.memory ≡ true → (state_in o).memory ≡ (state_in l.group.group).memory)
      → AreAlike l.tables l.watches l.fn.marks (state_in o) (state_in l.group.group) → list_any (differs l.tables o l.group.group) (take l.n l.watches) ≡ false;
}
