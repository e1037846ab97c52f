use Rattle.std.proofs.Common.{◌≡◌, ◌<◌, ℕ, Bool, Some, slice_get, true}
use Rattle.spv_group.specs.Group.{state_in}
use Rattle.spv_state.specs.State.{State}
use Rattle.spv_stops.specs.Watches.{WatchKey}
use Rattle.spv_hits.specs.Kept.{Did, IsAlike}
use Rattle.spv_hits.proofs.same.mark_alike.Given as goal

abbrev pub invariant-loop-n : goal.invariant-loop-n
invariant-loop-n l = (s : State) → Did l.touched s (state_in l.group.group) → (m : ℕ) (w : ℕ × WatchKey) (mark : Bool) → m < l.n → slice_get l.watches m ≡ Some w → slice_get l.marks m ≡ Some mark → mark ≡ true
    → IsAlike l.tables w.1 s (state_in l.group.group)
