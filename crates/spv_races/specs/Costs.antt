-- How many steps it takes, at most, to look at the events of a stretch and to come back. A step is a call of the machine's `step`.
use Rattle.std.specs.Prelude.{ℕ, ◌+◌, ◌-◌, min, max, Bool}
use Rattle.spv_group.specs.Group.{Undoing, end_in, entries_in}
use Rattle.spv_group.specs.History.{window}
use Rattle.spv_search.specs.Costs.{return_cost}

-- to a position, forth or back
abbrev pub way_cost : (told : Bool) → (kept from to : ℕ) → ℕ
way_cost told kept from to = (to - from) + return_cost told kept from to

-- One for each event from the least of the three positions to the greatest, where the events on the ways back are kept. Else those ways are
-- made from the start on: to the first position, where what is kept doesn't reach so far back, and from the greatest one, where the journal
-- had room for the events from a window on alone.
abbrev pub order_cost : (told : Bool) → (kept window position from to : ℕ) → ℕ
order_cost told kept window position from to =
    (max to position - min from position) + return_cost told kept position from + return_cost told (max kept window) (max to position) position

-- the greatest position on a way to a position and back
abbrev pub top_of : Undoing → ℕ → ℕ
top_of u to = max u.group.position (min to (end_in u.group))

-- the least position from which on a group's journal keeps all events before a position
abbrev pub window_at : Undoing → ℕ → ℕ
window_at u n = window u.limit u.group.program (entries_in u.group) n
