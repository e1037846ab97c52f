use Rattle.std.proofs.Common.{◌≡◌, length, map}
use Rattle.spv_dbg.specs.Kinds.{kind_with}
use Rattle.spv_dbg.proofs.kinds.kind_in.Given as goal

abbrev pub invariant-loop-table : goal.invariant-loop-table
invariant-loop-table l = kind_with l.number (map (λ o. (o.0, (o.1.now, o.2))) l.table) ≡ kind_with l.number (map (λ o. (o.0, (o.1.now, o.2))) l.initial.table)

abbrev pub decreases-loop-table : goal.decreases-loop-table
decreases-loop-table l = length l.table
