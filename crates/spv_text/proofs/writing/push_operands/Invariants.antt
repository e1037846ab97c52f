use Rattle.std.proofs.Common.{◌≡◌, ◌++◌, drop, map}
use Rattle.spv_text.specs.Spelling.{parts_text}
use Rattle.spv_text.specs.declared.lines.Part.TheVariants as part
use Rattle.spv_text.proofs.writing.push_operands.Given as goal

abbrev pub invariant-loop-operand : goal.invariant-loop-operand
invariant-loop-operand l = l.text.items ++ parts_text (map part.Operand (drop l.operand-index l.operands)) ≡ l.fn.text.items ++ parts_text (map part.Operand (l.operands))
