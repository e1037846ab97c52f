use Rattle.std.proofs.Common.{◌≡◌, ◌∙◌, Err, Ok, ap, rules, sym}
use Rattle.spv_base.specs.declared.instructions.Inst.{Inst}
use Rattle.spv_sites.specs.Branches.{deciding_number, chosen_label}
use Rattle.spv_sites.specs.Sites.{due, values}
use Rattle.spv_control.proofs.BranchLemmas.{answer_due, by_missing, by_number, by_undefined, condition_due, due_as, found_due, jumps}
use Rattle.spv_control.proofs.ControlCodes.{branching_by}
use Rattle.spv_control.proofs.branches.branch_conditional.Goals as goal

pub condition_is_kept-requires : goal.condition_is_kept-requires
condition_is_kept-requires c = branching_by c.args.site.now.inst c.requires

pub returns-in_err-condition-clause-due : goal.returns-in_err-condition-clause-due
returns-in_err-condition-clause-due c v =
    let same : c.from_residual.result ≡ Err c.in_err-condition.field-0.0 = search rules in
    found_due (due c.args.site.now) v (values c.args.site.now 0) c.in_err-condition.field-0.0 c.from_residual.result
    (λ none. condition_due c.args.site.now c.requires ∙ by_missing c.args.site.now (chosen_label c.args.site.now.inst) none) c.in_err-condition.ensures.value same

pub returns-in_err-number-clause-due : goal.returns-in_err-number-clause-due
returns-in_err-number-clause-due c v =
    let same : c.from_residual-in_err-number.result ≡ Err c.in_err-number.field-0.0 = search rules in
    answer_due (due c.args.site.now) v (deciding_number c.part.result) c.in_err-number.field-0.0 c.from_residual-in_err-number.result
    (λ cause undefined. condition_due c.args.site.now c.requires
    ∙ by_undefined c.args.site.now (chosen_label c.args.site.now.inst) c.in_ok-condition.condition cause c.in_ok-condition.ensures.value (ap deciding_number (sym c.part.ensures) ∙ undefined)) c.in_err-number.ensures same

pub jump-requires : goal.jump-requires
jump-requires c =
    let label : chosen_label c.args.site.now.inst c.in_ok-number.number ≡ c.chosen_label.result = ap (λ (i : Inst). chosen_label i c.in_ok-number.number) (sym c.inst.ensures) ∙ sym c.chosen_label.ensures in
    λ block function is stands. c.condition_is_kept.ensures.entered c.in_ok-number.number block function (label ∙ is) stands

pub returns-clause-due : goal.returns-clause-due
returns-clause-due c v =
    let label : chosen_label c.args.site.now.inst c.in_ok-number.number ≡ c.chosen_label.result = ap (λ (i : Inst). chosen_label i c.in_ok-number.number) (sym c.inst.ensures) ∙ sym c.chosen_label.ensures in
    let number : deciding_number c.in_ok-condition.condition ≡ Ok c.in_ok-number.number = ap deciding_number (sym c.part.ensures) ∙ c.in_ok-number.ensures in
    due_as (due c.args.site.now) (jumps c.args.site.now c.chosen_label.result) v c.jump.result (condition_due c.args.site.now c.requires
    ∙ by_number c.args.site.now (chosen_label c.args.site.now.inst) c.in_ok-condition.condition c.in_ok-number.number c.in_ok-condition.ensures.value number ∙ ap (jumps c.args.site.now) label) (c.jump.ensures.due v)
