use Rattle.std.proofs.Common.{◌≡◌, ◌*◌, ◌+◌, ◌++◌, drop, map}
use Rattle.std.specs.List.{flat_map}
use Rattle.spv_types.specs.declared.forms.Member.{Member}
use Rattle.spv_consts.specs.Values.{blank_cell, widths_among}
use Rattle.spv_consts.proofs.values.Blanks.+blanks.Given as goal

-- the parts of a type stand before it
abbrev pub decreases-among : goal.decreases-among
decreases-among l = 3 * l.limit

abbrev pub decreases-of_form : goal.decreases-of_form
decreases-of_form l = 3 * l.limit + 2

abbrev pub decreases-repeated_cells : goal.decreases-repeated_cells
decreases-repeated_cells l = 3 * l.limit + 1

abbrev pub decreases-of_members : goal.decreases-of_members
decreases-of_members l = 3 * l.limit + 1

-- the cells so far and those of the members that are left
abbrev pub invariant-of_members-loop-member : goal.invariant-of_members-loop-member
invariant-of_members-loop-member l =
    l.cells.items ++ flat_map (λ (m : Member). map (blank_cell l.self.defined) (widths_among l.self.types.now l.limit m.ty)) (drop l.member-index l.members)
    ≡ l.fn.cells.items ++ flat_map (λ (m : Member). map (blank_cell l.self.defined) (widths_among l.self.types.now l.limit m.ty)) l.members
