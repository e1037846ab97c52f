use Rattle.std.proofs.Common.{◌≡◌, ◌++◌, drop}
use Rattle.spv_index.specs.Operands.{ids_in}
use Rattle.spv_cfg.proofs.operands.ids_in.Given as goal

abbrev pub invariant-loop-operand : goal.invariant-loop-operand
invariant-loop-operand l = l.ids.items ++ ids_in (drop l.operand-index l.operands) ≡ ids_in l.operands
