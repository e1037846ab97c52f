use Rattle.std.proofs.Common.{◌≡◌, ◌∙◌, Bool, Err, Ok, ap, rules, subst, sym}
use Rattle.std.proofs.lemmas.Bool.{eq-eqb, ne_eqb}
use Rattle.std.specs.Option.{is_some}
use Rattle.spv_base.specs.Cell.{Cell}
use Rattle.spv_base.specs.declared.values.Value.{Value, Scalar, out-Value}
use Rattle.spv_types.specs.Laws.{AreSound}
use Rattle.spv_types.specs.Shapes.{scalar_in}
use Rattle.spv_valid.specs.Acceptance.{Accepted}
use Rattle.spv_operands.specs.Operands.{shown}
use Rattle.spv_results.specs.Operands.{known}
use Rattle.spv_results.proofs.Exports.{sound_types}
use Rattle.spv_sites.specs.Effects as spec
use Rattle.spv_sites.specs.Fits.{Fits}
use Rattle.spv_sites.specs.Sites.{values}
use Rattle.spv_sites.proofs.Exports.{no_value_due}
use Rattle.spv_computing.proofs.SelectLemmas.{chosen_fits, chosen_object, chosen_other, chosen_undefined, condition_data, condition_scalar, operand_lent, select_alone, select_missing, select_without}
use Rattle.spv_computing.proofs.selects.select_pointer.Goals as goal

pub value-requires : goal.value-requires
value-requires c = condition_data (known c.args.site.now.program.accepted) c.args.site.now.inst c.select_chooses.ensures.rule

pub cell_of-cell-requires : goal.cell_of-cell-requires
cell_of-cell-requires c =
    let a = c.args.site.now.program.accepted in
    let sound = subst (λ (a : Accepted). AreSound a.types) c.accepted.ensures (sound_types c.accepted.result.now c.insts-insts.ensures.valid) in
    ap (λ (v : Value). is_some (scalar_in (out-Value v))) c.part.ensures
    ∙ condition_scalar a c.args.site.now.inst c.in_ok-condition.condition sound c.select_chooses.ensures.rule c.in_ok-condition.ensures.shape

pub returns-in_err-condition-clause-due : goal.returns-in_err-condition-clause-due
returns-in_err-condition-clause-due c =
    let same : c.from_residual.result ≡ Err c.in_err-condition.field-0.0 = search rules in
    no_value_due c.args.site.now c.args.row.now (values c.args.site.now 0) c.from_residual.result c.in_err-condition.field-0.0 (select_missing c.args.site.now c.requires.action) c.in_err-condition.ensures.value same

pub returns-in_err-object-clause-due : goal.returns-in_err-object-clause-due
returns-in_err-object-clause-due c =
    let same : c.from_residual-in_err-object.result ≡ Err c.in_err-object.field-0.0 = search rules in
    no_value_due c.args.site.now c.args.row.now (values c.args.site.now 1) c.from_residual-in_err-object.result c.in_err-object.field-0.0
    (select_without c.args.site.now c.requires.action c.in_ok-condition.condition c.in_ok-condition.ensures.value) c.in_err-object.ensures.value same

pub returns-in_err-other-clause-due : goal.returns-in_err-other-clause-due
returns-in_err-other-clause-due c =
    let same : c.from_residual-in_err-other.result ≡ Err c.in_err-other.field-0.0 = search rules in
    no_value_due c.args.site.now c.args.row.now (values c.args.site.now 2) c.from_residual-in_err-other.result c.in_err-other.field-0.0
    (select_alone c.args.site.now c.requires.action c.in_ok-condition.condition c.in_ok-condition.ensures.value (shown c.in_ok-object.object) c.in_ok-object.ensures.value) c.in_err-other.ensures.value same

-- ---- by the condition

pub returns-then-not-cell-clause-due : goal.returns-then-not-cell-clause-due
returns-then-not-cell-clause-due c =
    let x = c.args.site.now in
    let a = x.program.accepted in
    let rule = c.select_chooses.ensures.rule in
    let sound = subst (λ (b : Accepted). AreSound b.types) c.accepted.ensures (sound_types c.accepted.result.now c.insts-insts.ensures.valid) in
    let object = shown c.in_ok-object.object in
    let lent = operand_lent a x.inst 1 x.inst.ty object sound c.in_ok-object.ensures.shape rule.1.1.0.0 c.requires.pointers in
    chosen_undefined x c.requires.action c.in_ok-condition.condition c.in_ok-condition.ensures.value object c.in_ok-object.ensures.value (shown c.in_ok-other.other) c.in_ok-other.ensures.value
    (record { bits = c.cell.inside.bits; width = c.cell.inside.width; defined = c.cell.inside.defined })
    (sym c.part.ensures ∙ c.cell_of-cell.ensures ∙ ap (λ (l : Cell). Scalar l) (sym c.cell.view_is)) lent c.if-not-cell.true

pub returns-then-cell-eq0-clause-due : goal.returns-then-cell-eq0-clause-due
returns-then-cell-eq0-clause-due c =
    let x = c.args.site.now in
    let a = x.program.accepted in
    let rule = c.select_chooses.ensures.rule in
    let sound = subst (λ (b : Accepted). AreSound b.types) c.accepted.ensures (sound_types c.accepted.result.now c.insts-insts.ensures.valid) in
    let object = shown c.in_ok-object.object in
    let lent = operand_lent a x.inst 1 x.inst.ty object sound c.in_ok-object.ensures.shape rule.1.1.0.0 c.requires.pointers in
    chosen_other x c.requires.action c.in_ok-condition.condition c.in_ok-condition.ensures.value object c.in_ok-object.ensures.value (shown c.in_ok-other.other) c.in_ok-other.ensures.value
    (record { bits = c.cell.inside.bits; width = c.cell.inside.width; defined = c.cell.inside.defined })
    (sym c.part.ensures ∙ c.cell_of-cell.ensures ∙ ap (λ (l : Cell). Scalar l) (sym c.cell.view_is)) lent c.if-not-cell.false (eq-eqb c.cell.inside.bits 0 c.if-cell-eq0.true) ∙ ap (λ (e : spec.Effect). Ok e) (sym c.in_ok-takes.ensures.value)

pub returns-then-cell-eq0-clause-fits : goal.returns-then-cell-eq0-clause-fits
returns-then-cell-eq0-clause-fits c =
    let x = c.args.site.now in
    let a = x.program.accepted in
    let rule = c.select_chooses.ensures.rule in
    let sound = subst (λ (b : Accepted). AreSound b.types) c.accepted.ensures (sound_types c.accepted.result.now c.insts-insts.ensures.valid) in
    subst (Fits x.program x.state x.inv x.inst) (sym c.in_ok-takes.ensures.value)
    (chosen_fits x c.accepted.result.now c.accepted.ensures c.insts-insts.ensures.accepted c.insts-insts.ensures.valid c.is_reached.ensures sound c.select_chooses.ensures.next 2 (shown c.in_ok-other.other) c.in_ok-other.ensures.value c.in_ok-other.ensures.shape rule.1.1.0.1)

pub returns-clause-due : goal.returns-clause-due
returns-clause-due c =
    let x = c.args.site.now in
    let a = x.program.accepted in
    let rule = c.select_chooses.ensures.rule in
    let sound = subst (λ (b : Accepted). AreSound b.types) c.accepted.ensures (sound_types c.accepted.result.now c.insts-insts.ensures.valid) in
    let object = shown c.in_ok-object.object in
    let lent = operand_lent a x.inst 1 x.inst.ty object sound c.in_ok-object.ensures.shape rule.1.1.0.0 c.requires.pointers in
    chosen_object x c.requires.action c.in_ok-condition.condition c.in_ok-condition.ensures.value object c.in_ok-object.ensures.value (shown c.in_ok-other.other) c.in_ok-other.ensures.value
    (record { bits = c.cell.inside.bits; width = c.cell.inside.width; defined = c.cell.inside.defined })
    (sym c.part.ensures ∙ c.cell_of-cell.ensures ∙ ap (λ (l : Cell). Scalar l) (sym c.cell.view_is)) lent c.if-not-cell.false (ne_eqb c.cell.inside.bits 0 c.if-cell-eq0.false) ∙ ap (λ (e : spec.Effect). Ok e) (sym c.in_ok-takes-2.ensures.value)

pub returns-clause-fits : goal.returns-clause-fits
returns-clause-fits c =
    let x = c.args.site.now in
    let a = x.program.accepted in
    let rule = c.select_chooses.ensures.rule in
    let sound = subst (λ (b : Accepted). AreSound b.types) c.accepted.ensures (sound_types c.accepted.result.now c.insts-insts.ensures.valid) in
    subst (Fits x.program x.state x.inv x.inst) (sym c.in_ok-takes-2.ensures.value)
    (chosen_fits x c.accepted.result.now c.accepted.ensures c.insts-insts.ensures.accepted c.insts-insts.ensures.valid c.is_reached.ensures sound c.select_chooses.ensures.next 1 (shown c.in_ok-object.object) c.in_ok-object.ensures.value c.in_ok-object.ensures.shape rule.1.1.0.0)
