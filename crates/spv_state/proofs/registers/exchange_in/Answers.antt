use Rattle.spv_types.specs.Rows.{no_roots}
use Rattle.spv_frame.specs.Registers.{marked}
use Rattle.spv_frame.specs.Stacks.{top}
use Rattle.spv_plans.specs.Plans.{plan_of}
use Rattle.spv_state.proofs.NumberLemmas.{exchanged, none_there, value_put}
use Rattle.spv_state.proofs.SlotLemmas.{cells_fit, slot_there, top_plan}
use Rattle.spv_state.proofs.registers.exchange_in.Goals as goal

pub value_slot_of-requires-clause-function : goal.value_slot_of-requires-clause-function
value_slot_of-requires-clause-function c =
    let a = c.args.accepted.now in
    let own = top_plan a c.args.function (top c.args.stack.now.frames) c.requires.function c.requires.frame in
    c.plans_are_of_functions.ensures.numbers a c.args.function own.2.among

pub exchange-requires-clause-slot : goal.exchange-requires-clause-slot
exchange-requires-clause-slot c =
    slot_there c.args.accepted.now c.args.function (top c.args.stack.now.frames) c.in-Some.slot.now c.requires.function c.requires.frame c.in-Some.ensures.0

pub exchange-requires-clause-room : goal.exchange-requires-clause-room
exchange-requires-clause-room c =
    let a = c.args.accepted.now in
    let s = c.in-Some.slot.now in
    let own = top_plan a c.args.function (top c.args.stack.now.frames) c.requires.function c.requires.frame in
    let type = c.registers_have_types.ensures.values a c.args.function s.id s.number c.insts-insts.ensures.accepted own.2.among c.in-Some.ensures.0.named in
    cells_fit a (plan_of a c.args.function) c.args.id s c.args.row.now c.in-Some.ensures.0 c.in-Some.ensures.1 type c.requires.value
    (λ ty n shape cells. c.rows_fill_types.ensures a.types no_roots ty c.args.row.now n shape cells)

pub returns-in-Some-clause-after : goal.returns-in-Some-clause-after
returns-in-Some-clause-after c =
    let s = c.in-Some.slot.now in
    value_put c.args.stack.now c.exchange.new.self s (marked c.args.row.now c.args.has.now)
    (slot_there c.args.accepted.now c.args.function (top c.args.stack.now.frames) s c.requires.function c.requires.frame c.in-Some.ensures.0) c.exchange.ensures.after

pub returns-in-Some-clause-register : goal.returns-in-Some-clause-register
returns-in-Some-clause-register c =
    let a = c.args.accepted.now in
    let s = c.in-Some.slot.now in
    let o = top c.args.stack.now.frames in
    let own = top_plan a c.args.function o c.requires.function c.requires.frame in
    let type = c.registers_have_types.ensures.values a c.args.function s.id s.number c.insts-insts.ensures.accepted own.2.among c.in-Some.ensures.0.named in
    let fit = cells_fit a (plan_of a c.args.function) c.args.id s c.args.row.now c.in-Some.ensures.0 c.in-Some.ensures.1 type c.requires.value
    (λ ty n shape cells. c.rows_fill_types.ensures a.types no_roots ty c.args.row.now n shape cells) in
    exchanged o c.args.id s c.args.row.now c.exchange.new.value c.exchange.new.has (slot_there a c.args.function o s c.requires.function c.requires.frame c.in-Some.ensures.0) c.in-Some.ensures.1 fit c.exchange.ensures.room
    c.exchange.ensures.handed

pub returns-in-None-clause-register : goal.returns-in-None-clause-register
returns-in-None-clause-register c =
    none_there c.args.accepted.now c.args.function (top c.args.stack.now.frames) c.args.id c.requires.function c.requires.frame c.in-None.ensures
