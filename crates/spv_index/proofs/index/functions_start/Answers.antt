use Rattle.spv_index.proofs.StartLemmas.{before_all, before_more, before_stop}
use Rattle.spv_index.proofs.index.functions_start.Goals as goal

pub returns-then-inst-eq-FUNCTION-clause-before : goal.returns-then-inst-eq-FUNCTION-clause-before
returns-then-inst-eq-FUNCTION-clause-before c = before_stop c.args.insts.now c.loop-n.n c.index-insts-n.result c.loop-n-test.true c.index-insts-n.is c.if-inst-eq-FUNCTION.true c.loop-n.invariant

pub loop-n-preserved : goal.loop-n-preserved
loop-n-preserved c = before_more c.args.insts.now c.loop-n.n c.index-insts-n.result c.loop-n-test.true c.index-insts-n.is c.if-inst-eq-FUNCTION.false c.loop-n.invariant

pub returns-clause-before : goal.returns-clause-before
returns-clause-before c = before_all c.args.insts.now c.loop-n.n c.loop-n.auto.n-end c.loop-n-test.false c.loop-n.invariant
