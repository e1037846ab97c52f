use Rattle.std.proofs.Common.{◌≡◌, ◌++◌, drop}
use Rattle.spv_cfg.specs.Operands as spec
use Rattle.spv_cfg.proofs.operands.literals_in.Given as goal

abbrev pub invariant-loop-operand : goal.invariant-loop-operand
invariant-loop-operand l = l.words.items ++ spec.literals_in (drop l.operand-index l.operands) ≡ spec.literals_in l.operands
