use Rattle.std.proofs.Common.{◌≡◌, ◌<◌, ◌≤◌, ℕ, Some, slice_get}
use Rattle.spv_stops.specs.Watches.{WatchKey}
use Rattle.spv_hits.specs.Kept.{IsPlaced}
use Rattle.spv_hits.specs.declared.places.Place.{Place}
use Rattle.spv_hits.proofs.watches.keep_others.Given as goal

abbrev pub invariant-loop-n : goal.invariant-loop-n
invariant-loop-n l = record {
  before : (m : ℕ) (w : ℕ × WatchKey) (place : Place) → m < l.n → slice_get l.watches m ≡ Some w → slice_get l.places m ≡ Some place
      → IsPlaced l.tables w.1 place l.group.group (slice_get l.marks m) (slice_get l.fn.places m);
  behind : (m : ℕ) → l.n ≤ m → slice_get l.places m ≡ slice_get l.fn.places m;
}
