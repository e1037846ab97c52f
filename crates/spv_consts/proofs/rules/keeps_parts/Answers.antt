use Rattle.spv_types.specs.Types.{form_of}
use Rattle.spv_consts.proofs.RuleLemmas.{parts_broken, parts_end, parts_kept}
use Rattle.spv_consts.proofs.rules.keeps_parts.Goals as goal

pub returns-then-not-keeps_part : goal.returns-then-not-keeps_part
returns-then-not-keeps_part c =
    let same = c.as_slice-operand-items.ensures in
    parts_broken c.args.context.now c.args.walk.now c.args.inst.now.word (form_of c.args.walk.now.types c.args.inst.now.ty) c.args.inst.now.operands c.loop-part.part _ c.operand-item.result c.id_in.ensures (rw same at c.loop-part-test.true) (rw same at c.operand-item.is) c.if-not-keeps_part.ensures c.loop-part.invariant

pub loop-part-preserved : goal.loop-part-preserved
loop-part-preserved c =
    let same = c.as_slice-operand-items.ensures in
    parts_kept c.args.context.now c.args.walk.now c.args.inst.now.word (form_of c.args.walk.now.types c.args.inst.now.ty) c.args.inst.now.operands c.loop-part.part _ c.operand-item.result c.id_in.ensures (rw same at c.loop-part-test.true) (rw same at c.operand-item.is) c.if-not-keeps_part.ensures c.loop-part.invariant

pub returns : goal.returns
returns c =
    let same = c.as_slice-operand-items.ensures in
    parts_end c.args.context.now c.args.walk.now c.args.inst.now.word (form_of c.args.walk.now.types c.args.inst.now.ty) c.args.inst.now.operands c.loop-part.part (rw same at c.loop-part-test.false) c.loop-part.invariant
