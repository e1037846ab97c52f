use Rattle.std.proofs.Common.{◌+◌, ◌*◌}
use Rattle.spv_expr.proofs.fronts.+front.Given as goal

-- the parts of a type stand before it
abbrev pub decreases-type_front : goal.decreases-type_front
decreases-type_front l = 3 * l.limit

abbrev pub decreases-form_front : goal.decreases-form_front
decreases-form_front l = 3 * l.limit + 2

abbrev pub decreases-row_front : goal.decreases-row_front
decreases-row_front l = 3 * l.limit + 1

abbrev pub decreases-members_front : goal.decreases-members_front
decreases-members_front l = 3 * l.limit + 1
