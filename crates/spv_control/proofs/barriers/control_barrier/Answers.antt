use Rattle.std.proofs.Common.{◌≡◌, ◌∙◌, Err, Ok, rules}
use Rattle.spv_base.specs.declared.values.Value.{Value}
use Rattle.spv_sites.specs.Sites.{first_of_three}
use Rattle.spv_sites.specs.Effects.{Wait, goes}
use Rattle.spv_sites.proofs.Exports.{outside_due, err_then, ok_then, operand}
use Rattle.spv_control.proofs.BarrierLemmas.{control_is, first_err, first_ok, second_err, third_err, asked, missing}
use Rattle.spv_control.proofs.barriers.control_barrier.Goals as goal

pub returns-in_err-ask-clause-due : goal.returns-in_err-ask-clause-due
returns-in_err-ask-clause-due c =
    let x = c.args.site.now in
    let same : c.from_residual.result ≡ Err c.in_err-ask.field-0.0 = search rules in
    outside_due x c.args.row.now (operand x 0) c.from_residual.result c.in_err-ask.field-0.0
    (λ cause h. control_is x c.requires ∙ err_then (first_of_three x) (λ (_ : Value). Ok (goes Wait)) cause (first_err x cause h)) (missing x 0 c.in_err-ask.field-0.0 c.in_err-ask.ensures) same

pub returns-in_err-ask-2-clause-due : goal.returns-in_err-ask-2-clause-due
returns-in_err-ask-2-clause-due c =
    let x = c.args.site.now in
    let same : c.from_residual-in_err-ask-2.result ≡ Err c.in_err-ask-2.field-0.0 = search rules in
    let first = asked x 0 c.in_ok-ask.ensures in
    outside_due x c.args.row.now (operand x 1) c.from_residual-in_err-ask-2.result c.in_err-ask-2.field-0.0
    (λ cause h. control_is x c.requires ∙ err_then (first_of_three x) (λ (_ : Value). Ok (goes Wait)) cause (second_err x first.0 cause first.1 h)) (missing x 1 c.in_err-ask-2.field-0.0 c.in_err-ask-2.ensures) same

pub returns-in_err-ask-3-clause-due : goal.returns-in_err-ask-3-clause-due
returns-in_err-ask-3-clause-due c =
    let x = c.args.site.now in
    let same : c.from_residual-in_err-ask-3.result ≡ Err c.in_err-ask-3.field-0.0 = search rules in
    let first = asked x 0 c.in_ok-ask.ensures in
    let second = asked x 1 c.in_ok-ask-2.ensures in
    outside_due x c.args.row.now (operand x 2) c.from_residual-in_err-ask-3.result c.in_err-ask-3.field-0.0
    (λ cause h. control_is x c.requires ∙ err_then (first_of_three x) (λ (_ : Value). Ok (goes Wait)) cause (third_err x first.0 second.0 cause first.1 second.1 h)) (missing x 2 c.in_err-ask-3.field-0.0 c.in_err-ask-3.ensures) same

pub returns-clause-due : goal.returns-clause-due
returns-clause-due c =
    let x = c.args.site.now in
    let first = asked x 0 c.in_ok-ask.ensures in
    let second = asked x 1 c.in_ok-ask-2.ensures in
    let third = asked x 2 c.in_ok-ask-3.ensures in
    control_is x c.requires ∙ ok_then (first_of_three x) (λ (_ : Value). Ok (goes Wait)) first.0 (first_ok x first.0 second.0 third.0 first.1 second.1 third.1)
