use Rattle.std.proofs.Common.{◌≡◌, drop}
use Rattle.spv_ops.specs.Steps.{before}
use Rattle.spv_ops.specs.Reading.{operands_of}
use Rattle.spv_ops.proofs.reading.operands_of.Given as goal

abbrev pub invariant-loop-part : goal.invariant-loop-part
invariant-loop-part l = before l.operands (operands_of (drop l.part-index l.parts) l.rest l.words) ≡ operands_of l.parts l.rest l.fn.words
