use Rattle.std.proofs.Common.{◌≡◌, length, map}
use Rattle.spv_ops.specs.Grammar.{row_with}
use Rattle.spv_ops.proofs.opcodes.found_in.Given as goal

abbrev pub invariant-loop-table : goal.invariant-loop-table
invariant-loop-table l = row_with l.number (map (λ o. (o.0, o.1.now, o.2, o.3.now, o.4)) l.table)
    ≡ row_with l.number (map (λ o. (o.0, o.1.now, o.2, o.3.now, o.4)) l.initial.table)

abbrev pub decreases-loop-table : goal.decreases-loop-table
decreases-loop-table l = length l.table
