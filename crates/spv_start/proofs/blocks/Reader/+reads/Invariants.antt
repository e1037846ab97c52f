use Rattle.std.proofs.Common.{◌≡◌, ◌*◌, ◌+◌, ◌++◌, ◌^◌, ◌<◌, drop}
use Rattle.std.specs.List.{flat_map}
use Rattle.spv_types.specs.Rows.{leaves}
use Rattle.spv_start.specs.Blocks.{read_among, read_members, read_row}
use Rattle.spv_start.proofs.blocks.Reader.+reads.Given as goal

-- the parts of a type stand before it
abbrev pub decreases-among : goal.decreases-among
decreases-among l = 3 * l.limit

abbrev pub decreases-of_form : goal.decreases-of_form
decreases-of_form l = 3 * l.limit + 2

abbrev pub decreases-row : goal.decreases-row
decreases-row l = 3 * l.limit + 1

abbrev pub decreases-of_members : goal.decreases-of_members
decreases-of_members l = 3 * l.limit + 1

-- the cells so far and those of the elements that are left
abbrev pub invariant-row-each : goal.invariant-row-each
invariant-row-each l = record {
  within : l.place + l.left * l.stride + l.limit * 2 ^ 64 + 8 < 2 ^ 128;
  cells : l.cells.items ++ flat_map leaves (read_row (read_among l.self.types.now l.self.bytes.now l.self.size l.limit l.ty) l.place l.stride l.left)
      ≡ l.fn.cells.items ++ flat_map leaves (read_row (read_among l.self.types.now l.self.bytes.now l.self.size l.limit l.ty) l.at l.stride l.count);
}

abbrev pub decreases-row-each : goal.decreases-row-each
decreases-row-each l = l.left

-- the cells so far and those of the members that are left
abbrev pub invariant-of_members-loop-member : goal.invariant-of_members-loop-member
invariant-of_members-loop-member l =
    l.cells.items ++ flat_map leaves (read_members (read_among l.self.types.now l.self.bytes.now l.self.size l.limit) l.at (drop l.member-index l.members))
    ≡ l.fn.cells.items ++ flat_map leaves (read_members (read_among l.self.types.now l.self.bytes.now l.self.size l.limit) l.at l.members)
