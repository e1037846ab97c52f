use Rattle.std.proofs.Common.{◌≡◌, ◌*◌, ◌+◌, drop, replicate}
use Rattle.spv_show.specs.Elements.{with_elements}
use Rattle.spv_show.specs.Sheets.{put_among, put_elements, put_members}
use Rattle.spv_show.proofs.values.Writer.+writes.Given as goal

-- the parts of a type stand before it
abbrev pub decreases-among : goal.decreases-among
decreases-among l = 5 * l.limit

abbrev pub decreases-of_form : goal.decreases-of_form
decreases-of_form l = 5 * l.limit + 4

abbrev pub decreases-array : goal.decreases-array
decreases-array l = 5 * l.limit + 3

abbrev pub decreases-row : goal.decreases-row
decreases-row l = 5 * l.limit + 2

abbrev pub decreases-elements : goal.decreases-elements
decreases-elements l = 5 * l.limit + 1

abbrev pub decreases-of_struct : goal.decreases-of_struct
decreases-of_struct l = 5 * l.limit + 2

abbrev pub decreases-of_members : goal.decreases-of_members
decreases-of_members l = 5 * l.limit + 1

-- with the elements that are left, all are written
abbrev pub invariant-elements-loop-number : goal.invariant-elements-loop-number
invariant-elements-loop-number l =
    put_elements l.number (drop l.number (replicate l.count (put_among (with_elements l.self.elements l.self.types.now) l.self.cells.now l.limit l.ty))) l.sheet
    ≡ put_elements 0 (replicate l.count (put_among (with_elements l.self.elements l.self.types.now) l.self.cells.now l.limit l.ty)) l.fn.sheet

-- with the members that are left, all are written
abbrev pub invariant-of_members-loop-number : goal.invariant-of_members-loop-number
invariant-of_members-loop-number l =
    put_elements l.number (drop l.number (put_members (put_among (with_elements l.self.elements l.self.types.now) l.self.cells.now l.limit) 0 l.members)) l.sheet
    ≡ put_elements 0 (put_members (put_among (with_elements l.self.elements l.self.types.now) l.self.cells.now l.limit) 0 l.members) l.fn.sheet
