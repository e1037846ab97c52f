use Rattle.std.proofs.Common.{◌≡◌, ◌∙◌, List, Some, sym, ap, subst}
use Rattle.spv_base.specs.Entries.{reads}
use Rattle.spv_frame.specs.Functions.{registers_of}
use Rattle.spv_frame.specs.Registers.{Planned, ids, number_of}
use Rattle.spv_plans.specs.Registered.{IsAt}
use Rattle.spv_valid.specs.declared.meanings.Meaning.TheVariants.{Register as Registered}
use Rattle.spv_operands.proofs.ReadingLemmas.{absent_value, held_plain, own_plan, type_read, value_meant}
use Rattle.spv_operands.proofs.reading.operand.Goals as goal

pub elsewhere-requires : goal.elsewhere-requires
elsewhere-requires c =
    let a = c.args.accepted.now in
    let own = c.args.frame.now.plan in
    let number = own_plan a own c.requires.frame (c.plans_are_of_functions.ensures.numbers a own.function c.requires.frame.function) in
    absent_value c.args.frame.now c.args.id
    (c.registers_stand_once.ensures.absent a c.args.id number.0 own (sym (ap (λ (ps : List Planned). reads c.args.id (registers_of ps)) c.requires.plans) ∙ sym c.in-None.ensures) number.1)

pub returns-in-Some-clause-value : goal.returns-in-Some-clause-value
returns-in-Some-clause-value c =
    let a = c.args.accepted.now in
    let found = sym (ap (λ (ps : List Planned). reads c.args.id (registers_of ps)) c.requires.plans) ∙ sym c.in-Some.ensures in
    let at : IsAt a c.args.id c.in-Some.found = c.registers_stand_once.ensures.found a c.args.id c.in-Some.found c.insts-insts.ensures.accepted found in
    let meant = c.registers_are_meant.ensures a c.args.id c.in-Some.found at.plan c.insts-insts.ensures.accepted found at.at in
    c.register-in-Some.ensures.value ∙ value_meant a c.args.frame.now c.args.depth c.args.id (Registered at.plan.function) meant

pub returns-in-Some-clause-plain : goal.returns-in-Some-clause-plain
returns-in-Some-clause-plain c =
    let a = c.args.accepted.now in
    let own = c.args.frame.now.plan in
    λ shaped. held_plain a c.args.frame.now c.args.id c.register-in-Some.result c.insts-insts.ensures.valid shaped
    (λ n number. type_read a own c.args.id n (c.registers_have_types.ensures.values a own.function c.args.id n c.insts-insts.ensures.accepted c.requires.frame.function
    (subst (λ (p : Planned). number_of c.args.id (ids p.values) ≡ Some n) c.requires.frame.is number))) c.register-in-Some.ensures.held
