use Rattle.std.proofs.Common.{take}
use Rattle.spv_expr.specs.Bits.{entry_cells}
use Rattle.spv_expr.specs.Kept.{kept_entry}
use Rattle.spv_expr.specs.Rests.{ArePutIn}
use Rattle.spv_expr.proofs.locals.put_open.Given as goal

abbrev pub invariant-loop-span : goal.invariant-loop-span
invariant-loop-span l = ArePutIn (entry_cells (kept_entry l.entry)) l.range (take l.span-index l.gaps) l.first l.initial.bits l.bits
