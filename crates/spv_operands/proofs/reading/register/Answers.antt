use Rattle.std.proofs.Common.{◌≢◌, ◌∙◌, List, sym, ap}
use Rattle.spv_base.specs.Entries.{reads}
use Rattle.spv_frame.specs.Functions.{registers_of}
use Rattle.spv_frame.specs.Registers.{Planned}
use Rattle.spv_plans.specs.Registered.{IsAt, IsOfFunction}
use Rattle.spv_operands.proofs.ReadingLemmas.{StandsIn, absent_value, found_below, found_plan, own_plan, plan_apart, plan_same}
use Rattle.spv_operands.proofs.reading.register.Goals as goal

pub at-plan-requires : goal.at-plan-requires
at-plan-requires c =
    let a = c.args.accepted.now in
    let at : IsAt a c.args.id c.args.found
    = c.registers_stand_once.ensures.found a c.args.id c.args.found c.insts-insts.ensures.accepted (sym (ap (λ (ps : List Planned). reads c.args.id (registers_of ps)) c.requires.plans) ∙ c.requires.found) in
    found_below a c.args.plans.now c.args.id c.args.found c.requires.plans at

pub operand_at-requires : goal.operand_at-requires
operand_at-requires c =
    let a = c.args.accepted.now in
    let p = c.at-plan.result.now in
    let at : IsAt a c.args.id c.args.found
    = c.registers_stand_once.ensures.found a c.args.id c.args.found c.insts-insts.ensures.accepted (sym (ap (λ (ps : List Planned). reads c.args.id (registers_of ps)) c.requires.plans) ∙ c.requires.found) in
    let stands : StandsIn a c.args.id c.args.found p = found_plan a c.args.plans.now c.args.id c.args.found p c.requires.plans at c.at-plan.ensures in
    let of_function : IsOfFunction a p = c.plans_are_of_functions.ensures.plans a c.args.found.plan p stands.at in
    record {
      plan = plan_same a c.args.frame.now.plan p c.requires.frame of_function (sym c.function.ensures ∙ c.if-function.true ∙ c.function-2.ensures);
      stands = stands.stands;
      apart = plan_apart a p of_function (c.registers_are_apart.ensures a p.function c.insts-insts.ensures.accepted);
    }

pub returns-else-function-clause-value : goal.returns-else-function-clause-value
returns-else-function-clause-value c =
    let a = c.args.accepted.now in
    let p = c.at-plan.result.now in
    let own = c.args.frame.now.plan in
    let at : IsAt a c.args.id c.args.found
    = c.registers_stand_once.ensures.found a c.args.id c.args.found c.insts-insts.ensures.accepted (sym (ap (λ (ps : List Planned). reads c.args.id (registers_of ps)) c.requires.plans) ∙ c.requires.found) in
    let stands : StandsIn a c.args.id c.args.found p = found_plan a c.args.plans.now c.args.id c.args.found p c.requires.plans at c.at-plan.ensures in
    let number = own_plan a own c.requires.frame (c.plans_are_of_functions.ensures.numbers a own.function c.requires.frame.function) in
    let apart : own.function ≢ p.function = λ same. c.if-function.false (c.function.ensures ∙ sym same ∙ sym c.function-2.ensures) in
    sym (absent_value c.args.frame.now c.args.id (stands.alone number.0 own number.1 apart))
