use Rattle.std.proofs.Common.{◌≡◌, length}
use Rattle.std.specs.Cmp.Lexicographic.{pointwise}
use Rattle.spv_hits.specs.Watches.{same_bit}
use Rattle.spv_hits.proofs.bits.same_list.Given as goal

abbrev pub invariant-bits : goal.invariant-bits
invariant-bits l = pointwise same_bit l.a l.b ≡ pointwise same_bit l.fn.a l.fn.b

abbrev pub decreases-bits : goal.decreases-bits
decreases-bits l = length l.a
