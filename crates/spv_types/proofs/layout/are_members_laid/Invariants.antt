use Rattle.std.proofs.Common.{◌≡◌, length, drop}
use Rattle.spv_types.specs.Layout.{laid_among, are_members_laid}
use Rattle.spv_types.proofs.layout.are_members_laid.Given as goal

-- the members so far are laid out
abbrev pub invariant-loop-member : goal.invariant-loop-member
invariant-loop-member l = are_members_laid (laid_among l.types (length l.laid)) l.members ≡ are_members_laid (laid_among l.types (length l.laid)) (drop l.member-index l.members)
