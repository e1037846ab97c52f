use Rattle.std.proofs.Common.{subst, sym}
use Rattle.spv_plans.specs.Registered.{HasNumber}
use Rattle.spv_state.proofs.NumberLemmas.{held_pointer, no_pointer_held, own_pointer_slot}
use Rattle.spv_state.proofs.ExecutableLemmas.{function_known, standing}
use Rattle.spv_state.proofs.held.held_pointer_in.Goals as goal

pub pointer_slot_of-requires-clause-function : goal.pointer_slot_of-requires-clause-function
pointer_slot_of-requires-clause-function c =
    let a = c.args.accepted.now in
    let f = c.args.frame.now in
    subst (HasNumber a) (sym c.function.ensures) (c.plans_are_of_functions.ensures.numbers a f.plan.function (function_known a f.plan.function f.pc (standing a f.plan.function f.pc c.requires.frame.stands)))

pub pointer-requires : goal.pointer-requires
pointer-requires c = own_pointer_slot c.args.accepted.now c.args.frame.now c.in-Some.slot c.function.result c.requires.frame c.function.ensures c.in-Some.ensures.0

pub returns-in-Some : goal.returns-in-Some
returns-in-Some c =
    held_pointer c.args.accepted.now c.args.frame.now c.function.result c.args.id c.in-Some.slot _ c.requires.frame c.function.ensures c.in-Some.ensures.0 c.in-Some.ensures.1 c.pointer.ensures

pub returns-in-None : goal.returns-in-None
returns-in-None c = no_pointer_held c.args.accepted.now c.args.frame.now c.function.result c.args.id c.requires.frame c.function.ensures c.in-None.ensures
