use Rattle.std.proofs.Common.{◌+◌, ◌*◌}
use Rattle.spv_types.proofs.places.+place.Given as goal

-- the parts of a type stand before it
abbrev pub decreases-place_among : goal.decreases-place_among
decreases-place_among l = 4 * l.limit

abbrev pub decreases-form_place : goal.decreases-form_place
decreases-form_place l = 4 * l.limit + 3

abbrev pub decreases-element_place : goal.decreases-element_place
decreases-element_place l = 4 * l.limit + 1

abbrev pub decreases-member_place : goal.decreases-member_place
decreases-member_place l = 4 * l.number + 2

abbrev pub decreases-leaf_place : goal.decreases-leaf_place
decreases-leaf_place l = 4 * l.limit + 1
