use Rattle.std.proofs.Common.{◌≢◌, map, take}
use Rattle.std.specs.List.{AllByRecursion}
use Rattle.spv_ops.specs.Opcodes.{Row}
use Rattle.spv_text.proofs.naming.found_in.Given as goal

abbrev pub invariant-loop-opcode : goal.invariant-loop-opcode
invariant-loop-opcode l = AllByRecursion (λ (row : Row). row.1 ≢ l.name) (map (λ o. (o.0, o.1.now, o.2, o.3.now, o.4)) (take l.opcode-index l.table))
