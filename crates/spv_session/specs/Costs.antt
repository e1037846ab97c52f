-- How many steps the commands take, at most. A step is a call of the machine's `step`; nothing else counts one.
use Rattle.std.specs.Prelude.{ℕ, max, min, nat_lt, Bool, if◌then◌else◌, List}
use Rattle.spv_cmd.specs.Commands.{command_of}
use Rattle.spv_group.specs.Group.{Held as Group, end_in, entries_in}
use Rattle.spv_group.specs.History.{window}
use Rattle.spv_races.specs.Costs.{order_cost}
use Rattle.spv_search.specs.Costs.{forward_cost, backward_cost, return_cost}
use Rattle.spv_search.specs.Told.{has_probe}
use Rattle.spv_session.specs.View.{Settings, View, Viewing, tests_at}
use Rattle.spv_session.specs.Motions.{Motion, straight, forward, backward, hits, target}
use Rattle.spv_session.specs.Reply.{Act, goes, walks, orders, act_of, is_over}

-- Of a motion to a number: back none where the events from it on are kept, else one for each event before it, or, where a probe is told of
-- those that are taken back, before the position.
abbrev pub straight_cost : (told : Bool) → (kept : ℕ) → Group → ℕ → ℕ
straight_cost told kept g n = if nat_lt n g.position then return_cost told kept g.position n else forward_cost g.position (min n (end_in g))

abbrev pub motion_cost : (tests : Settings) → (kept : ℕ) → View → Motion → ℕ
motion_cost tests kept v (straight n done) = straight_cost (has_probe tests) kept v.group n
motion_cost tests kept v (forward own) = forward_cost v.group.position (target (hits tests) v (forward own))
motion_cost tests kept v (backward own) = backward_cost (has_probe tests) kept (target (hits tests) v (backward own))

-- of a command; only motions take any, and an order, which goes to its events and back
abbrev pub act_cost : (tests : Settings) → (kept : ℕ) → View → Act → ℕ
act_cost tests kept v (goes motion) = motion_cost tests kept v (motion v)
act_cost tests kept v (walks motion) = if is_over v then 0 else motion_cost tests kept v (motion v)
act_cost tests kept v (orders a b) = order_cost (has_probe tests) kept kept v.group.position a b
act_cost tests kept v _ = 0

-- of a line, by the tests of the probes that are there
unfoldable pub cost_by : (tests : Settings) → (kept : ℕ) → View → List ℕ → ℕ
cost_by tests kept v line = act_cost tests kept v (act_of (command_of line))

-- by the settings of the kit that was handed in
unfoldable pub line_cost : Settings → (kept : ℕ) → View → List ℕ → ℕ
line_cost settings kept v line = cost_by (tests_at settings v) kept v line

-- ---- what is kept

-- the highest position to which a command goes that comes back to where it was
abbrev pub reached_by : View → Act → ℕ
reached_by v (orders a b) = max v.group.position (min b (end_in v.group))
reached_by v _ = 0

unfoldable pub reached : View → List ℕ → ℕ
reached v line = reached_by v (act_of (command_of line))

-- The least position to which the group goes back by undoing while a command is carried out, but for what is kept behind it: what was kept
-- before, or the window of that highest position.
abbrev pub kept_by : Viewing → Act → ℕ
kept_by s (orders a b) = max s.kept (window s.limit s.view.group.program (entries_in s.view.group) (reached_by s.view (orders a b)))
kept_by s _ = s.kept

unfoldable pub line_kept : Viewing → List ℕ → ℕ
line_kept s line = kept_by s (act_of (command_of line))
