use Rattle.std.proofs.Common.{◌≡◌, ◌∙◌, ◌+◌, ◌≤◌, ℕ, suc, Err, List, ap, arith, get_or, length, rules, subst, sym}
use Rattle.spv_frame.specs.declared.slots.Place.{Place}
use Rattle.spv_frame.specs.declared.slots.Place.TheVariants.{Value}
use Rattle.spv_frame.specs.Frames.{fresh}
use Rattle.spv_frame.specs.Registers.{Planned}
use Rattle.spv_operands.specs.Operands.{shown}
use Rattle.spv_plans.specs.Plans.{plan_of}
use Rattle.spv_valid.specs.Acceptance.{Accepted, IsAccepted}
use Rattle.spv_state.proofs.Exports.{function_frame}
use Rattle.spv_control.specs.Passing.{IsParameter, Suits, frame_due}
use Rattle.spv_sites.specs.Sites.{values}
use Rattle.spv_control.proofs.PassingLemmas.{Begins, argument_missing, begins_all, begins_fault, begins_fresh, begins_next, parameter_there, passed_at}
use Rattle.spv_sites.proofs.Exports.{site_root}
use Rattle.spv_control.proofs.calls.frame_of.Goals as goal

pub loop-number-init : goal.loop-number-init
loop-number-init c =
    let a = c.args.site.now.program.accepted in
    begins_fresh c.args.site.now c.args.function c.in_ok-frame.frame (c.in_ok-frame.ensures ∙ ap fresh c.requires.plan)
    (function_frame c.functions_have_their_plans.ensures.has a c.args.function (subst (λ (x : Accepted). ∥ IsAccepted x ∥₁) c.accepted.ensures c.insts-insts.ensures.accepted) c.requires.known)

pub returns-in_err-operand-clause-due : goal.returns-in_err-operand-clause-due
returns-in_err-operand-clause-due c =
    let x = c.args.site.now in
    let n = c.loop-number.number in
    let same : c.from_residual-in_err-operand.result ≡ Err c.in_err-operand.field-0.0 = search rules in
    let are : c.parameters-parameters.result.now ≡ (plan_of x.program.accepted c.args.function).parameters = c.parameters-parameters.ensures ∙ ap (λ (p : Planned). p.parameters) (c.deref.ensures ∙ c.requires.plan) in
    let there = parameter_there x c.args.function c.parameters-parameters.result.now are n c.loop-number-test.true (Value 0) in
    let next : suc n ≡ n + 1 = omega arith in
    argument_missing (values x (n + 1)) (frame_due x c.args.function) c.from_residual-in_err-operand.result c.in_err-operand.field-0.0
    (λ none. begins_fault x c.args.function n c.loop-number.frame there.0 there.1 (ap (values x) next ∙ none) c.loop-number.invariant) c.in_err-operand.ensures.value same

pub put-requires-clause-suits : goal.put-requires-clause-suits
put-requires-clause-suits c =
    let x = c.args.site.now in
    let are : c.parameters-parameters.result.now ≡ (plan_of x.program.accepted c.args.function).parameters = c.parameters-parameters.ensures ∙ ap (λ (p : Planned). p.parameters) (c.deref.ensures ∙ c.requires.plan) in
    let there = passed_at x c.args.function c.parameters-parameters.result.now are c.loop-number.number c.loop-number-test.true (Value 0) c.results_have_registers.ensures.values c.results_have_registers.ensures.pointers
    c.registers_have_types.ensures.values c.rows_fill_types.ensures c.registers_are_apart.ensures c.accepted.result.now c.accepted.ensures c.insts-insts.ensures.accepted c.insts-insts.ensures.valid c.requires.known
    c.requires.passes (shown c.in_ok-operand.operand) c.in_ok-operand.ensures.shape in
    let place : Place = get_or c.parameters-parameters.result.now c.loop-number.number (Value 0) in
    subst (λ (p : Planned). Suits p place (shown c.in_ok-operand.operand)) (sym (c.deref-in-loop-number.ensures ∙ c.requires.plan)) there.passed.suits

pub loop-number-preserved : goal.loop-number-preserved
loop-number-preserved c =
    let x = c.args.site.now in
    let n = c.loop-number.number in
    let v = shown c.in_ok-operand.operand in
    let are : c.parameters-parameters.result.now ≡ (plan_of x.program.accepted c.args.function).parameters = c.parameters-parameters.ensures ∙ ap (λ (p : Planned). p.parameters) (c.deref.ensures ∙ c.requires.plan) in
    let there = passed_at x c.args.function c.parameters-parameters.result.now are n c.loop-number-test.true (Value 0) c.results_have_registers.ensures.values c.results_have_registers.ensures.pointers
    c.registers_have_types.ensures.values c.rows_fill_types.ensures c.registers_are_apart.ensures c.accepted.result.now c.accepted.ensures c.insts-insts.ensures.accepted c.insts-insts.ensures.valid c.requires.known
    c.requires.passes v c.in_ok-operand.ensures.shape in
    let next : suc n ≡ n + 1 = omega arith in
    let id = there.parameter.id in
    let place : Place = get_or c.parameters-parameters.result.now n (Value 0) in
    let made = c.in_ok-put.ensures id (subst (λ (p : Planned). IsParameter p place id) (sym (c.deref-in-loop-number.ensures ∙ c.requires.plan)) there.passed.is) in
    subst (λ (m : ℕ). Begins x c.args.function m c.put.new.frame) next
    (begins_next x c.args.function n c.loop-number.frame c.put.new.frame there.parameter v there.at (ap (values x) next ∙ c.in_ok-operand.ensures.value) there.passed.fits
    (λ q is. site_root x (suc n) there.parameter.ty v q c.accepted.result.now c.accepted.ensures c.insts-insts.ensures.accepted c.insts-insts.ensures.valid c.is_reached.ensures (ap (values x) next ∙ c.in_ok-operand.ensures.value)
    (c.requires.passes n there.parameter there.at) is) made c.loop-number.invariant)

pub returns-clause-due : goal.returns-clause-due
returns-clause-due c =
    let x = c.args.site.now in
    let are : c.parameters-parameters.result.now ≡ (plan_of x.program.accepted c.args.function).parameters = c.parameters-parameters.ensures ∙ ap (λ (p : Planned). p.parameters) (c.deref.ensures ∙ c.requires.plan) in
    let done : length (plan_of x.program.accepted c.args.function).parameters ≤ c.loop-number.number = subst (λ (ps : List Place). length ps ≤ c.loop-number.number) are c.loop-number-test.false in
    begins_all x c.args.function c.loop-number.number c.loop-number.frame done c.loop-number.invariant
