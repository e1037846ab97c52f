use Rattle.std.proofs.Common.{◌≡◌, ◌≤◌, true, drop, length}
use Rattle.std.specs.List.{list_all}
use Rattle.spv_cmd.specs.Places.{is_no_colon}
use Rattle.spv_cmd.proofs.places.behind_colon.Given as goal

-- no colon stands behind the place
abbrev pub invariant-loop-place : goal.invariant-loop-place
invariant-loop-place l = (l.place ≤ length l.text) × (list_all is_no_colon (drop l.place l.text) ≡ true)

abbrev pub decreases-loop-place : goal.decreases-loop-place
decreases-loop-place l = l.place
