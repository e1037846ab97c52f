use Rattle.std.proofs.Common.{◌≡◌, map, take}
use Rattle.spv_make.specs.Rows.{operand_of}
use Rattle.spv_make.proofs.encoding.inst_of.Given as goal

abbrev pub invariant-loop-part : goal.invariant-loop-part
invariant-loop-part l = l.operands ≡ map (operand_of l.turns) (take l.part-index l.parts)
