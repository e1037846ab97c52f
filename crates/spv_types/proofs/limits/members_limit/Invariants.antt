use Rattle.std.proofs.Common.{◌≡◌, length, take}
use Rattle.spv_types.specs.Limits.{limit_among, members_limit}
use Rattle.spv_types.proofs.limits.members_limit.Given as goal

-- the deepest of the members so far, and their cells
abbrev pub invariant-loop-member : goal.invariant-loop-member
invariant-loop-member l = record {
  deepest : l.nesting ≡ (members_limit (limit_among l.types (length l.limits)) (take l.member-index l.members)).nesting;
  together : l.cells ≡ (members_limit (limit_among l.types (length l.limits)) (take l.member-index l.members)).cells;
}
