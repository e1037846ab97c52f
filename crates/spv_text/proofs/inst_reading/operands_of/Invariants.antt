use Rattle.std.proofs.Common.{◌≡◌, take, map}
use Rattle.spv_text.specs.declared.lines.Part.TheVariants as part
use Rattle.spv_text.proofs.inst_reading.operands_of.Given as goal

abbrev pub invariant-loop-part : goal.invariant-loop-part
invariant-loop-part l = take l.part-index l.parts ≡ map part.Operand l.operands
