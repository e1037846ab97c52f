use Rattle.std.proofs.Common.{◌≤◌, length, take}
use Rattle.spv_expr.specs.Bits.{local_bit}
use Rattle.spv_expr.specs.Rests.{AreTold, AreWithin}
use Rattle.spv_expr.proofs.locals.put_local.Given as goal

abbrev pub invariant-back : goal.invariant-back
invariant-back l = record {
  least : l.k ≤ length l.events;
  within : AreWithin l.first l.bits l.gaps.items;
  told : AreTold (local_bit l.view.memory.now l.view.inv l.view.tables.now l.events l.instance) (local_bit l.view.memory.now l.view.inv l.view.tables.now (take l.k l.events) l.instance) l.first l.bits l.gaps.items;
}

abbrev pub decreases-back : goal.decreases-back
decreases-back l = l.k
