use Rattle.std.proofs.Common.{◌++◌, ◌∙◌, ap, ℕ, List}
use Rattle.spv_ops.specs.Encoding.{words_of_operand}
use Rattle.spv_ops.proofs.OperandLaws.{words_more, bytes_more}
use Rattle.spv_ops.proofs.encoding.push_operands.Goals as goal

pub loop-operand-preserved : goal.loop-operand-preserved
loop-operand-preserved c =
    let one = c.in_ok-push_operand.ensures in
    let operand = c.operand-item.result in
    record {
      spelled = one.0 ∙ ap (λ (ws : List ℕ). ws ++ words_of_operand operand) c.loop-operand.invariant.spelled
          ∙ words_more c.args.words.now c.args.operands.now c.loop-operand.operand-index operand c.loop-operand-test.true c.operand-item.is;
      bytes = bytes_more c.args.operands.now c.loop-operand.operand-index operand c.loop-operand-test.true c.operand-item.is c.loop-operand.invariant.bytes one.1;
    }
