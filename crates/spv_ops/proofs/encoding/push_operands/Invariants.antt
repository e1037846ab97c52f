use Rattle.std.proofs.Common.{◌≡◌, ◌++◌, take}
use Rattle.std.specs.List.{AllByRecursion}
use Rattle.spv_ops.specs.Encoding.{words_of_operands, HasBytes}
use Rattle.spv_ops.proofs.encoding.push_operands.Given as goal

abbrev pub invariant-loop-operand : goal.invariant-loop-operand
invariant-loop-operand l = record {
  spelled : l.words ≡ l.fn.words ++ words_of_operands (take l.operand-index l.operands);
  bytes : AllByRecursion HasBytes (take l.operand-index l.operands);
}
