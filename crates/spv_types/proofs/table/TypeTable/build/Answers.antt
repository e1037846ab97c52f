use Rattle.std.proofs.Common.{◌≡◌, ◌∙◌, Ok, ap, refl, sym, true, false, take}
use Rattle.spv_types.specs.Rules.{keeps_other}
use Rattle.spv_types.specs.Typing.{defined_form, types_in}
use Rattle.spv_types.proofs.BuildLemmas.{before_is, breaches_broken, breaches_kept, kept_by, types_built, types_step, types_none, types_refused}
use Rattle.spv_types.proofs.table.TypeTable.build.Goals as goal

pub loop-inst-init : goal.loop-inst-init
loop-inst-init c = record { types = c.new-table.ensures ∙ types_none c.args.index.now.insts; refusals = refl }

pub returns-then-not-keeps_rules : goal.returns-then-not-keeps_rules
returns-then-not-keeps_rules c =
    let kept : false ≡ keeps_other c.args.index.now.insts (types_in c.args.index.now.insts (take c.loop-inst.inst-index (take c.functions_start.result c.insts-insts.result.now))) c.inst-item.result (defined_form c.args.index.now.insts c.inst-item.result) = kept_by c.args.index.now.insts _ c.loop-inst.table c.inst-item.result c.in_ok-form.form _ c.loop-inst.invariant.types c.in_ok-form.ensures c.if-not-keeps_rules.ensures in
    let front = before_is c.args.index.now.insts c.insts-insts.result.now c.functions_start.result c.insts-insts.ensures.insts c.functions_start.ensures.before in
    types_refused c.args.index.now.insts _ _ _ front (c.loop-inst.invariant.refusals ∙ breaches_broken c.args.index.now.insts _ c.loop-inst.inst-index c.inst-item.result c.loop-inst-test.true c.inst-item.is kept)

pub loop-inst-preserved : goal.loop-inst-preserved
loop-inst-preserved c =
    let kept : true ≡ keeps_other c.args.index.now.insts (types_in c.args.index.now.insts (take c.loop-inst.inst-index (take c.functions_start.result c.insts-insts.result.now))) c.inst-item.result (defined_form c.args.index.now.insts c.inst-item.result) = kept_by c.args.index.now.insts _ c.loop-inst.table c.inst-item.result c.in_ok-form.form _ c.loop-inst.invariant.types c.in_ok-form.ensures c.if-not-keeps_rules.ensures in
    record {
      types = c.in_ok-add_form.ensures ∙ types_step c.args.index.now.insts _ c.loop-inst.inst-index c.inst-item.result c.loop-inst.table c.in_ok-form.form c.loop-inst.invariant.types c.in_ok-form.ensures c.loop-inst-test.true c.inst-item.is;
      refusals = c.loop-inst.invariant.refusals ∙ breaches_kept c.args.index.now.insts _ c.loop-inst.inst-index c.inst-item.result c.loop-inst-test.true c.inst-item.is kept;
    }

pub returns : goal.returns
returns c =
    let front = before_is c.args.index.now.insts c.insts-insts.result.now c.functions_start.result c.insts-insts.ensures.insts c.functions_start.ensures.before in
    types_built c.args.index.now.insts _ c.loop-inst.inst-index c.loop-inst.table front c.loop-inst.auto.inst-index-end c.loop-inst-test.false c.loop-inst.invariant.types c.loop-inst.invariant.refusals ∙ sym (ap Ok c.count.ensures)
