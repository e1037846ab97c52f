use Rattle.std.proofs.Common.{◌∙◌, ◌<◌, length, sym, rules}
use Rattle.spv_plans.specs.Plans.{plan_of}
use Rattle.spv_state.proofs.PlanLemmas.{found_plan, has_plan, map_inside, map_is}
use Rattle.spv_state.proofs.plans.plan_in.Goals as goal

pub offset_bounds-list-number : goal.offset_bounds-list-number
offset_bounds-list-number c =
    let a = c.args.accepted.now in
    let at = found_plan c.plans_are_of_functions.ensures.found a c.args.plans.now _ c.args.function c.in-Some.number c.requires.plans c.list.ensures (sym c.number.ensures ∙ c.in-Some.is) in
    let inside : c.in-Some.number < length c.list.result.now = map_inside (λ plan. plan.value) c.list.result.now c.in-Some.number (plan_of a c.args.function) at in
    search rules

pub bounds-list-number : goal.bounds-list-number
bounds-list-number c =
    let a = c.args.accepted.now in
    let at = found_plan c.plans_are_of_functions.ensures.found a c.args.plans.now _ c.args.function c.in-Some.number c.requires.plans c.list.ensures (sym c.number.ensures ∙ c.in-Some.is) in
    map_inside (λ plan. plan.value) c.list.result.now c.in-Some.number (plan_of a c.args.function) at

pub unreachable-requires : goal.unreachable-requires
unreachable-requires c =
    has_plan c.plans_are_of_functions.ensures.numbers c.functions_are_apart.ensures.numbers c.args.accepted.now c.args.plans.now c.args.function c.requires.plans c.insts-insts.ensures.accepted
    c.requires.function (sym c.number.ensures ∙ c.in-None.is)

pub returns : goal.returns
returns c =
    let a = c.args.accepted.now in
    let at = found_plan c.plans_are_of_functions.ensures.found a c.args.plans.now _ c.args.function c.in-Some.number c.requires.plans c.list.ensures (sym c.number.ensures ∙ c.in-Some.is) in
    map_is (λ plan. plan.value) c.list.result.now c.in-Some.number c.index-list-number.result (plan_of a c.args.function) at c.index-list-number.is
