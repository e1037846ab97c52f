use Rattle.std.proofs.Common.{◌≡◌, length, take}
use Rattle.spv_types.specs.Layout.{greatest_end, size_among}
use Rattle.spv_types.proofs.layout.greatest_end.Given as goal

-- the greatest end so far
abbrev pub invariant-loop-member : goal.invariant-loop-member
invariant-loop-member l = l.greatest ≡ greatest_end (size_among l.types (length l.sizes)) (take l.member-index l.members)
