use Rattle.std.proofs.Common.{◌∙◌, arith}
use Rattle.std.proofs.lemmas.Grind.{common_steps}
use Rattle.spv_text.proofs.InstLemmas.{no_operands}
use Rattle.spv_text.proofs.inst_reading.operands_of.Goals as goal

pub loop-part-preserved : goal.loop-part-preserved
loop-part-preserved c = grind (arith, common_steps)

pub returns-in_default : goal.returns-in_default
returns-in_default c operands e =
    no_operands c.args.parts.now c.loop-part.part-index c.part-item.result operands c.loop-part-test.true (λ operand f. c.in_default.not-Operand operand (c.part-item.is ∙ f)) e
