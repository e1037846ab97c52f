use Rattle.std.proofs.Common.{◌∙◌, List, sym, ap}
use Rattle.spv_base.specs.Entries.{reads}
use Rattle.spv_frame.specs.Functions.{registers_of}
use Rattle.spv_frame.specs.Registers.{Planned}
use Rattle.spv_plans.specs.Plans.{plan_of}
use Rattle.spv_plans.specs.Registered.{IsAt, IsOfFunction}
use Rattle.spv_operands.proofs.Exports.{StandsIn, found_below, found_plan, plan_apart}
use Rattle.spv_state.proofs.registers.pointer_slot_of.Goals as goal

pub at-plan-requires : goal.at-plan-requires
at-plan-requires c =
    let a = c.args.accepted.now in
    let r = c.in_ok-register.register in
    let at : IsAt a c.args.id r
    = c.registers_stand_once.ensures.found a c.args.id r c.insts-insts.ensures.accepted (sym (ap (λ (ps : List Planned). reads c.args.id (registers_of ps)) c.requires.plans) ∙ sym c.register.ensures ∙ c.in_ok-register.was) in
    found_below a c.args.plans.now c.args.id r c.requires.plans at

pub returns-in_err-register : goal.returns-in_err-register
returns-in_err-register c =
    let a = c.args.accepted.now in
    let absent = c.registers_stand_once.ensures.absent a c.args.id c.requires.function.number (plan_of a c.args.function)
    (sym (ap (λ (ps : List Planned). reads c.args.id (registers_of ps)) c.requires.plans) ∙ sym c.register.ensures ∙ c.in_err-register.was) c.requires.function.at in
    rw c.from_residual.ensures absent.pointers

pub pointer_slot-requires-clause-stands : goal.pointer_slot-requires-clause-stands
pointer_slot-requires-clause-stands c =
    let a = c.args.accepted.now in
    let r = c.in_ok-register.register in
    let at : IsAt a c.args.id r
    = c.registers_stand_once.ensures.found a c.args.id r c.insts-insts.ensures.accepted (sym (ap (λ (ps : List Planned). reads c.args.id (registers_of ps)) c.requires.plans) ∙ sym c.register.ensures ∙ c.in_ok-register.was) in
    (found_plan a c.args.plans.now c.args.id r c.at-plan.result.now c.requires.plans at c.at-plan.ensures).stands

pub pointer_slot-requires-clause-apart : goal.pointer_slot-requires-clause-apart
pointer_slot-requires-clause-apart c =
    let a = c.args.accepted.now in
    let r = c.in_ok-register.register in
    let p = c.at-plan.result.now in
    let at : IsAt a c.args.id r
    = c.registers_stand_once.ensures.found a c.args.id r c.insts-insts.ensures.accepted (sym (ap (λ (ps : List Planned). reads c.args.id (registers_of ps)) c.requires.plans) ∙ sym c.register.ensures ∙ c.in_ok-register.was) in
    let stands : StandsIn a c.args.id r p = found_plan a c.args.plans.now c.args.id r p c.requires.plans at c.at-plan.ensures in
    let of_function : IsOfFunction a p = c.plans_are_of_functions.ensures.plans a r.plan p stands.at in
    plan_apart a p of_function (c.registers_are_apart.ensures a p.function c.insts-insts.ensures.accepted)

pub returns-else-function : goal.returns-else-function
returns-else-function c =
    let a = c.args.accepted.now in
    let r = c.in_ok-register.register in
    let p = c.at-plan.result.now in
    let at : IsAt a c.args.id r
    = c.registers_stand_once.ensures.found a c.args.id r c.insts-insts.ensures.accepted (sym (ap (λ (ps : List Planned). reads c.args.id (registers_of ps)) c.requires.plans) ∙ sym c.register.ensures ∙ c.in_ok-register.was) in
    let stands : StandsIn a c.args.id r p = found_plan a c.args.plans.now c.args.id r p c.requires.plans at c.at-plan.ensures in
    (stands.alone c.requires.function.number (plan_of a c.args.function) c.requires.function.at
    (λ same. c.if-function.false (c.function.ensures ∙ sym same ∙ c.plans_are_of_functions.ensures.function a c.args.function))).pointers
