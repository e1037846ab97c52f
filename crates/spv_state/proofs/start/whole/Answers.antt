use Rattle.std.proofs.Common.{◌≡◌, ◌∙◌, ◌≤◌, [], ◌∷◌, List, length, ap, arith}
use Rattle.std.proofs.lemmas.List.{length-replicate}
use Rattle.spv_frame.specs.Frames.{fresh}
use Rattle.spv_frame.specs.Stacks.{Stacked}
use Rattle.spv_plans.specs.Plans.{plans_in}
use Rattle.spv_state.specs.Events.{passed}
use Rattle.spv_state.proofs.BegunLemmas.{start_bounded, start_is}
use Rattle.spv_state.proofs.EntryLemmas.{entry_depth}
use Rattle.spv_state.proofs.EventLemmas.{begun_readable}
use Rattle.spv_state.proofs.start.whole.Goals as goal

pub stacks-requires-clause-room : goal.stacks-requires-clause-room
stacks-requires-clause-room c =
    let some : 1 ≤ c.accepted-accepted.result.now.depth = entry_depth c.accepted-accepted.result.now c.insts-insts.ensures.valid in
    omega (arith, some, c.depth.ensures)

pub stacks-requires-clause-plans : goal.stacks-requires-clause-plans
stacks-requires-clause-plans c = c.in_ok-plans.ensures.are ∙ ap plans_in c.accepted-accepted.ensures.module

pub stacks-requires-clause-frame : goal.stacks-requires-clause-frame
stacks-requires-clause-frame c =
    begun_readable c.functions_have_their_plans.ensures.has c.args.m.now.accepted c.accepted-accepted.result.now c.entry_plan-plan.result.now.value c.accepted-accepted.ensures.module c.insts-insts.ensures.accepted
    c.insts-insts.ensures.valid c.entry_plan-plan.ensures

pub invariant_of-result : goal.invariant_of-result
invariant_of-result c =
    let some : 1 ≤ c.accepted-accepted.result.now.depth = entry_depth c.accepted-accepted.result.now c.insts-insts.ensures.valid in
    let count : length c.in_ok-stacks.stacks.items ≡ c.invocations-count.result
    = ap (λ (ks : List Stacked). length ks) c.in_ok-stacks.ensures ∙ length-replicate c.invocations-count.result (record { frames = passed c.args.m.now.accepted 0 (fresh c.entry_plan-plan.result.now.value) ∷ []; room = c.depth.result }) in (
      omega (arith, count, c.in_ok-stacks.stacks.ok.0, c.invocations-count.type_inv),
      start_bounded c.args.m.now.accepted c.entry_plan-plan.result.now.value c.depth.result c.invocations-count.result c.in_ok-stacks.stacks.items c.in_ok-stacks.ensures (omega (arith, some, c.depth.ensures)) c.depth.type_inv,
    )

pub returns : goal.returns
returns c =
    start_is c.args.m.now c.accepted-accepted.result.now _ c.in_ok-memory.field-0 c.in_ok-stacks.stacks.items c.in_ok-new.field-0 c.entry_plan-plan.result.now.value c.invocations-count.result c.depth.result
    c.words_of.result c.accepted-accepted.ensures.module c.in_ok-plans.ensures.are c.in_ok-memory.ensures c.entry_plan-plan.ensures c.invocations-count.ensures.count c.depth.ensures
    c.in_ok-stacks.ensures c.words_of.ensures c.in_ok-new.ensures
