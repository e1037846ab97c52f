use Rattle.std.proofs.Common.{◌≡◌, ◌*◌, ◌+◌, ◌-◌, drop}
use Rattle.spv_parts.specs.Kept.{kept_part}
use Rattle.spv_parts.specs.Parts.{member_type, whole}
use Rattle.spv_print.specs.Layouts.{put_elements, put_members, put_part}
use Rattle.spv_print.proofs.writers.Writer.+writes.Given as goal

-- the parts of a type are nested less deep
abbrev pub decreases-part : goal.decreases-part
decreases-part l = 5 * l.depth

abbrev pub decreases-array : goal.decreases-array
decreases-array l = 5 * l.depth + 3

abbrev pub decreases-list : goal.decreases-list
decreases-list l = 5 * l.depth + 2

abbrev pub decreases-elements : goal.decreases-elements
decreases-elements l = 5 * l.depth + 1

abbrev pub decreases-of_plain : goal.decreases-of_plain
decreases-of_plain l = 5 * l.depth + 4

abbrev pub decreases-of_enum : goal.decreases-of_enum
decreases-of_enum l = 5 * l.depth + 1

abbrev pub decreases-of_struct : goal.decreases-of_struct
decreases-of_struct l = 5 * l.depth + 3

abbrev pub decreases-members : goal.decreases-members
decreases-members l = 5 * l.depth + 1

-- with the elements that are left, all are written
abbrev pub invariant-elements-loop-number : goal.invariant-elements-loop-number
invariant-elements-loop-number l =
    put_elements (λ x. put_part l.self.tables.now l.self.size l.depth x (kept_part l.element)) l.last l.number (l.count - l.number) l.sheet
    ≡ put_elements (λ x. put_part l.self.tables.now l.self.size l.depth x (kept_part l.element)) l.last 0 l.count l.fn.sheet

-- with the members that are left, all are written
abbrev pub invariant-members-loop-number : goal.invariant-members-loop-number
invariant-members-loop-number l =
    put_members (λ id x. put_part l.self.tables.now l.self.size l.depth x (whole (member_type l.self.tables.now id))) l.last l.number (drop l.number l.ids) l.sheet
    ≡ put_members (λ id x. put_part l.self.tables.now l.self.size l.depth x (whole (member_type l.self.tables.now id))) l.last 0 l.ids l.fn.sheet
