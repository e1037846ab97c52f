-- Where what a command asks for holds: at a position, for the invocation that is the focus, and the position from which the command
-- searches. A group stands for each of the two.
use Rattle.std.specs.Prelude.{ℕ, ◌-◌, ◌==◌, ◌&&◌, ◌||◌, not, nat_lt, nat_le, Bool, false}
use Rattle.spv_group.specs.Group.{Held as Group, group_at}
use Rattle.spv_search.specs.Keys.{at_head, depth_in, has_finished, key_in, same_key}
use Rattle.spv_search.specs.Moves.{has_landed, has_moved, moves_between, moves_next}
use Rattle.spv_search.specs.declared.commands.Forward.{Forward}
use Rattle.spv_search.specs.declared.commands.Forward.TheVariants as forward
use Rattle.spv_search.specs.declared.commands.Backward.{Backward}
use Rattle.spv_search.specs.declared.commands.Backward.TheVariants as backward

-- ---- forward

-- it was landed where a line begins that isn't the one searched from, or is finished
abbrev pub is_step : ℕ → (from here : Group) → Bool
is_step i from here = has_landed here i && (has_finished here i || (at_head here i && not (same_key (key_in here i) (key_in from i))))

abbrev pub own_forward : Forward → ℕ → (from here : Group) → Bool
-- the event before is the n-th from the position on that moves it
own_forward (forward.Stepi n) i from here = has_moved here i && moves_between from i from.position here.position == n
own_forward forward.Step i from here = is_step i from here
-- the same, in no call from there
own_forward forward.Next i from here = is_step i from here && nat_le (depth_in here i) (depth_in from i)
-- it was moved out of the frame
own_forward forward.Finish i from here = has_moved here i && nat_lt (depth_in here i) (depth_in from i)
own_forward forward.Continue i from here = false

-- ---- backward

-- it was landed where a line begins that isn't the one before that event
abbrev pub is_step_back : ℕ → Group → Bool
is_step_back i here = has_landed here i && (at_head here i && not (same_key (key_in here i) (key_in (group_at (here.position - 1) here) i)))

abbrev pub own_backward : Backward → ℕ → (from here : Group) → Bool
-- the event here is the n-th, counted back from the one before the position, that moves it
own_backward (backward.Rstepi n) i from here = moves_next here i && moves_between from i here.position from.position == n
own_backward backward.Rstep i from here = is_step_back i here
-- the same, in no call from there
own_backward backward.Rnext i from here = is_step_back i here && nat_le (depth_in here i) (depth_in from i)
-- it was moved out of the frame
own_backward backward.Rfinish i from here = has_moved here i && nat_lt (depth_in here i) (depth_in from i)
own_backward backward.Rcontinue i from here = false

-- ---- the same, by the event that it speaks of

-- what a backward command asks for of the event before a position
abbrev pub own_before : Backward → ℕ → (from here : Group) → Bool
own_before (backward.Rstepi n) i from here = false
own_before command i from here = own_backward command i from here

-- and of the event at it
abbrev pub own_next : Backward → ℕ → (from here : Group) → Bool
own_next (backward.Rstepi n) i from here = own_backward (backward.Rstepi n) i from here
own_next command i from here = false
