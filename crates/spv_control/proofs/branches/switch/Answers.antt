use Rattle.std.proofs.Common.{◌≡◌, ◌∙◌, Err, Ok, ap, rules, sym}
use Rattle.spv_sites.specs.Branches.{deciding_number, switch_label}
use Rattle.spv_sites.specs.Sites.{due, values}
use Rattle.spv_control.proofs.BranchLemmas.{answer_due, by_missing, by_number, by_undefined, switch_due, due_as, found_due, jumps}
use Rattle.spv_control.proofs.ControlCodes.{switching}
use Rattle.spv_control.proofs.branches.switch.Goals as goal

pub switch_is_kept-requires : goal.switch_is_kept-requires
switch_is_kept-requires c = switching c.args.site.now.inst c.requires

pub returns-in_err-selector-clause-due : goal.returns-in_err-selector-clause-due
returns-in_err-selector-clause-due c v =
    let same : c.from_residual.result ≡ Err c.in_err-selector.field-0.0 = search rules in
    found_due (due c.args.site.now) v (values c.args.site.now 0) c.in_err-selector.field-0.0 c.from_residual.result
    (λ none. switch_due c.args.site.now c.requires ∙ by_missing c.args.site.now (switch_label c.args.site.now.program.accepted.insts c.args.site.now.inst) none) c.in_err-selector.ensures.value same

pub returns-in_err-number-clause-due : goal.returns-in_err-number-clause-due
returns-in_err-number-clause-due c v =
    let same : c.from_residual-in_err-number.result ≡ Err c.in_err-number.field-0.0 = search rules in
    answer_due (due c.args.site.now) v (deciding_number c.part.result) c.in_err-number.field-0.0 c.from_residual-in_err-number.result
    (λ cause undefined. switch_due c.args.site.now c.requires
    ∙ by_undefined c.args.site.now (switch_label c.args.site.now.program.accepted.insts c.args.site.now.inst) c.in_ok-selector.selector cause c.in_ok-selector.ensures.value (ap deciding_number (sym c.part.ensures) ∙ undefined)) c.in_err-number.ensures same

pub jump-requires : goal.jump-requires
jump-requires c =
    let label : switch_label c.args.site.now.program.accepted.insts c.args.site.now.inst c.in_ok-number.number ≡ c.switch_label.result = search rules in
    λ block function is stands. c.switch_is_kept.ensures.entered c.in_ok-number.number block function (label ∙ is) stands

pub returns-clause-due : goal.returns-clause-due
returns-clause-due c v =
    let label : switch_label c.args.site.now.program.accepted.insts c.args.site.now.inst c.in_ok-number.number ≡ c.switch_label.result = search rules in
    let number : deciding_number c.in_ok-selector.selector ≡ Ok c.in_ok-number.number = ap deciding_number (sym c.part.ensures) ∙ c.in_ok-number.ensures in
    due_as (due c.args.site.now) (jumps c.args.site.now c.switch_label.result) v c.jump.result (switch_due c.args.site.now c.requires
    ∙ by_number c.args.site.now (switch_label c.args.site.now.program.accepted.insts c.args.site.now.inst) c.in_ok-selector.selector c.in_ok-number.number c.in_ok-selector.ensures.value number ∙ ap (jumps c.args.site.now) label) (c.jump.ensures.due v)
