use Rattle.spv_consts.proofs.RuleLemmas.{operands_broken, operands_end, operands_kept}
use Rattle.spv_consts.proofs.rules.are_operands.Goals as goal

pub returns-then-not-is_given : goal.returns-then-not-is_given
returns-then-not-is_given c = operands_broken c.args.context.now c.args.walk.now c.args.word c.args.operands.now c.loop-operand.operand-index _ c.operand-item.result c.id_in.ensures c.loop-operand-test.true c.operand-item.is c.if-not-is_given.ensures c.loop-operand.invariant

pub loop-operand-preserved : goal.loop-operand-preserved
loop-operand-preserved c = operands_kept c.args.context.now c.args.walk.now c.args.word c.args.operands.now c.loop-operand.operand-index _ c.operand-item.result c.id_in.ensures c.loop-operand-test.true c.operand-item.is c.if-not-is_given.ensures c.loop-operand.invariant

pub returns : goal.returns
returns c = operands_end c.args.context.now c.args.walk.now c.args.word c.args.operands.now c.loop-operand.operand-index c.loop-operand-test.false c.loop-operand.invariant
