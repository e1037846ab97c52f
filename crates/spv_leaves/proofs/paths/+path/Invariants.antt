use Rattle.std.proofs.Common.{◌≡◌, ◌+◌, ◌*◌, ◌≤◌, drop}
use Rattle.spv_types.specs.Cells.{cells_of}
use Rattle.spv_leaves.specs.Paths.{members_path, path_among}
use Rattle.spv_leaves.proofs.paths.+path.Given as goal

-- the parts of a type stand before it
abbrev pub decreases-push_among : goal.decreases-push_among
decreases-push_among l = 3 * l.limit

abbrev pub decreases-push_form : goal.decreases-push_form
decreases-push_form l = 3 * l.limit + 2

abbrev pub decreases-push_element : goal.decreases-push_element
decreases-push_element l = 3 * l.limit + 1

abbrev pub decreases-push_member : goal.decreases-push_member
decreases-push_member l = 3 * l.limit + 1

-- the leaf is behind the members that were passed
abbrev pub invariant-push_member-loop-k : goal.invariant-push_member-loop-k
invariant-push_member-loop-k l = record {
  path : l.path ≡ l.initial.path;
  left : l.left ≤ l.leaf;
  same : members_path (cells_of l.types) (path_among l.types l.limit) 0 l.members l.leaf ≡ members_path (cells_of l.types) (path_among l.types l.limit) l.k (drop l.k l.members) l.left;
}
