use Rattle.std.proofs.Common.{◌≡◌, ◌∙◌, Err, Ok, rules}
use Rattle.spv_base.specs.declared.values.Value.{Value}
use Rattle.spv_ops.specs.Steps.{◌>>=◌}
use Rattle.spv_sites.specs.Effects.{passes}
use Rattle.spv_sites.proofs.Exports.{outside_due, err_then, ok_then, operand}
use Rattle.spv_control.proofs.BarrierLemmas.{memory_is, asked, missing}
use Rattle.spv_control.proofs.barriers.memory_barrier.Goals as goal

pub returns-in_err-ask-clause-due : goal.returns-in_err-ask-clause-due
returns-in_err-ask-clause-due c =
    let x = c.args.site.now in
    let same : c.from_residual.result ≡ Err c.in_err-ask.field-0.0 = search rules in
    outside_due x c.args.row.now (operand x 0) c.from_residual.result c.in_err-ask.field-0.0
    (λ cause h. memory_is x c.requires ∙ err_then (operand x 0) (λ (_ : Value). operand x 1 >>= (λ (_ : Value). Ok passes)) cause h) (missing x 0 c.in_err-ask.field-0.0 c.in_err-ask.ensures) same

pub returns-in_err-ask-2-clause-due : goal.returns-in_err-ask-2-clause-due
returns-in_err-ask-2-clause-due c =
    let x = c.args.site.now in
    let same : c.from_residual-in_err-ask-2.result ≡ Err c.in_err-ask-2.field-0.0 = search rules in
    let first = asked x 0 c.in_ok-ask.ensures in
    outside_due x c.args.row.now (operand x 1) c.from_residual-in_err-ask-2.result c.in_err-ask-2.field-0.0
    (λ cause h. memory_is x c.requires ∙ ok_then (operand x 0) (λ (_ : Value). operand x 1 >>= (λ (_ : Value). Ok passes)) first.0 first.1 ∙ err_then (operand x 1) (λ (_ : Value). Ok passes) cause h)
    (missing x 1 c.in_err-ask-2.field-0.0 c.in_err-ask-2.ensures) same

pub returns-clause-due : goal.returns-clause-due
returns-clause-due c =
    let x = c.args.site.now in
    let first = asked x 0 c.in_ok-ask.ensures in
    let second = asked x 1 c.in_ok-ask-2.ensures in
    memory_is x c.requires ∙ ok_then (operand x 0) (λ (_ : Value). operand x 1 >>= (λ (_ : Value). Ok passes)) first.0 first.1 ∙ ok_then (operand x 1) (λ (_ : Value). Ok passes) second.0 second.1
