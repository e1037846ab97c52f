use Rattle.std.proofs.Common.{◌∙◌, sym}
use Rattle.spv_types.proofs.TypingLemmas.{ids_none, ids_next, ids_broken, ids_done}
use Rattle.spv_types.proofs.typing.ids.Goals as goal

pub loop-operand-init : goal.loop-operand-init
loop-operand-init c = rw c.new-ids.ensures (ids_none c.args.operands.now)

pub returns-in_default : goal.returns-in_default
returns-in_default c =
    ids_broken c.args.operands.now c.loop-operand.operand-index c.operand-item.result c.loop-operand.ids c.loop-operand-test.true c.operand-item.is (sym c.id_in.ensures ∙ c.in_default.is) c.loop-operand.invariant

pub loop-operand-preserved : goal.loop-operand-preserved
loop-operand-preserved c =
    rw c.in_ok-push.ensures.ok
    (ids_next c.args.operands.now c.loop-operand.operand-index c.in-Some.id c.operand-item.result c.loop-operand.ids c.loop-operand-test.true c.operand-item.is (sym c.id_in.ensures ∙ c.in-Some.is) c.loop-operand.invariant)

pub returns : goal.returns
returns c = ids_done c.args.operands.now c.loop-operand.operand-index c.loop-operand.ids c.loop-operand-test.false c.loop-operand.invariant
