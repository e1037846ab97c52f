use Rattle.std.proofs.Common.{◌≡◌, ◌+◌, drop, length}
use Rattle.spv_ops.specs.Encoding.{words_of_operands}
use Rattle.spv_session.proofs.info.operands_words.Given as goal

abbrev pub invariant-loop-operand : goal.invariant-loop-operand
invariant-loop-operand l = l.words + length (words_of_operands (drop l.operand-index l.operands)) ≡ length (words_of_operands l.operands)
