use Rattle.std.proofs.Common.{◌≡◌, ◌++◌, map, take}
use Rattle.spv_base.specs.declared.instructions.Operand.TheVariants.{Lit}
use Rattle.spv_ops.proofs.rests.push_literals.Given as goal

abbrev pub invariant-loop-word : goal.invariant-loop-word
invariant-loop-word l = l.operands ≡ l.fn.operands ++ map Lit (take l.word-index l.words)
