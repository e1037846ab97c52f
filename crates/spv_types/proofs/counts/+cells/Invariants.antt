use Rattle.std.proofs.Common.{◌≡◌, ◌+◌, ◌*◌, Some, take}
use Rattle.std.specs.Option.{option_map}
use Rattle.spv_types.specs.Cells.{cells_among, members_cells}
use Rattle.spv_base.specs.Saturation.{saturated}
use Rattle.spv_types.proofs.counts.+cells.Given as goal

-- the parts of a type stand before it
abbrev pub decreases-cells_among : goal.decreases-cells_among
decreases-cells_among l = 3 * l.limit

abbrev pub decreases-form_cells : goal.decreases-form_cells
decreases-form_cells l = 3 * l.limit + 2

abbrev pub decreases-repeated_cells : goal.decreases-repeated_cells
decreases-repeated_cells l = 3 * l.limit + 1

abbrev pub decreases-members_cells : goal.decreases-members_cells
decreases-members_cells l = 3 * l.limit + 1

-- the total is that of the members so far
abbrev pub invariant-members_cells-loop-member : goal.invariant-members_cells-loop-member
invariant-members_cells-loop-member l = option_map saturated (members_cells (cells_among l.types l.limit) (take l.member-index l.members)) ≡ Some l.total
