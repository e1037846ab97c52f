-- How many steps a search takes, at most. A step is a call of the machine's `step`; nothing else counts one.
use Rattle.std.specs.Prelude.{ℕ, ◌+◌, ◌-◌, ◌*◌, nat_le, nat_lt, Bool, if◌then◌else◌}

-- One for each event, and one more, where the end is a fault.
abbrev pub forward_cost : (from to : ℕ) → ℕ
forward_cost from to = (to - from) + 1

-- A return to a position takes none where the events from there on are kept. Else those before it are made from the start on; where a probe
-- is told of those that are taken back, these are made too.
abbrev pub return_cost : (told : Bool) → (kept from to : ℕ) → ℕ
return_cost told kept from to = if nat_lt to kept then (if told then from else to) else 0

-- to a position by the event before it
abbrev pub lead_cost : (told : Bool) → (from to : ℕ) → ℕ
lead_cost told from to = if told then from + 1 else to

-- A run from the start on to the position where it is: all events are made, and where a probe is told of them they are taken back before.
abbrev pub again_cost : (told : Bool) → (from : ℕ) → ℕ
again_cost told from = if told then 2 * from else from

-- One where all events that are looked at are kept: that before the position led to is taken back, to see it, and made again. Else those
-- before the least position that is kept are made from the start on, once to find the position and once to go there; where a probe is told
-- of them, once more, to take them back.
abbrev pub backward_cost : (told : Bool) → (kept to : ℕ) → ℕ
backward_cost told kept to = if nat_le kept (to - 1) then 1 else if told then 3 * kept + 1 else 2 * kept
