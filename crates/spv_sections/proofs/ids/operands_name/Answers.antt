use Rattle.spv_sections.proofs.IdLemmas.{few, operand_kept, operand_refused, operands_done}
use Rattle.spv_sections.proofs.ids.operands_name.Goals as goal

pub returns-then-not-operand_names : goal.returns-then-not-operand_names
returns-then-not-operand_names c =
    operand_refused c.args.index.now c.args.scope c.args.uses c.loop-operand.number c.args.operands.now c.loop-operand.operand-index c.operand-item.result c.wanted.result
    c.loop-operand-test.true c.operand-item.is c.wanted.ensures c.if-not-operand_names.ensures c.loop-operand.invariant.names

pub loop-operand-preserved : goal.loop-operand-preserved
loop-operand-preserved c = record {
  few = few c.operand-item.result c.id_count-number.result c.loop-operand.number c.loop-operand.operand-index c.id_count-number.ensures c.loop-operand.invariant.few;
  names = operand_kept c.args.index.now c.args.scope c.args.uses c.loop-operand.number c.args.operands.now c.loop-operand.operand-index c.operand-item.result c.wanted.result c.id_count-number.result
      c.loop-operand-test.true c.operand-item.is c.wanted.ensures c.id_count-number.ensures c.if-not-operand_names.ensures c.loop-operand.invariant.names;
}

pub returns : goal.returns
returns c = operands_done c.args.index.now c.args.scope c.args.uses c.loop-operand.number c.args.operands.now c.loop-operand.operand-index c.loop-operand-test.false c.loop-operand.invariant.names
