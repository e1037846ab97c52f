use Rattle.std.proofs.Common.{◌≡◌, length, map}
use Rattle.spv_base.specs.Entries.{reads}
use Rattle.spv_dbg.proofs.kinds.code_in.Given as goal

abbrev pub invariant-loop-table : goal.invariant-loop-table
invariant-loop-table l = reads l.opcode (map (λ o. (o.0, o.1.now)) l.table) ≡ reads l.opcode (map (λ o. (o.0, o.1.now)) l.initial.table)

abbrev pub decreases-loop-table : goal.decreases-loop-table
decreases-loop-table l = length l.table
