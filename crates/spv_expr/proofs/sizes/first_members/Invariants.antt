use Rattle.std.proofs.Common.{◌≤◌}
use Rattle.spv_expr.specs.Sizes.{AreSized}
use Rattle.spv_expr.proofs.sizes.first_members.Given as goal

abbrev pub invariant-loop-k : goal.invariant-loop-k
invariant-loop-k l = record {
  leaves : l.total.leaves ≤ l.room.leaves;
  bits : l.total.bits ≤ l.room.bits;
  sized : AreSized l.types l.members l.k l.total;
}
