use Rattle.std.proofs.Common.{◌≡◌, drop}
use Rattle.spv_consts.specs.Rules.{are_operands}
use Rattle.spv_consts.proofs.rules.are_operands.Given as goal

-- the operands so far keep the rule
abbrev pub invariant-loop-operand : goal.invariant-loop-operand
invariant-loop-operand l = are_operands l.context l.walk l.word l.operands ≡ are_operands l.context l.walk l.word (drop l.operand-index l.operands)
