use Rattle.std.proofs.Common.{◌≡◌, ◌∙◌, ◌<◌, List, Some, length, map, ap, sym, arith, slice_get}
use Rattle.spv_frame.specs.Registers.{Planned}
use Rattle.spv_state.proofs.PlanLemmas.{at_number, map_inside}
use Rattle.spv_state.proofs.SizeLemmas.{plan_next}
use Rattle.spv_state.proofs.start.most_cells_of.Goals as goal

pub loop-plan-preserved : goal.loop-plan-preserved
loop-plan-preserved c =
    let n = c.loop-plan.plan-index in
    plan_next (map (λ plan. plan.value) c.list-list.result.now) n c.loop-plan.most c.most_cells.result c.max-most.result c.deref.result.now c.loop-plan.invariant
    (at_number (λ plan. plan.value) c.list-list.result.now n c.plan-item.result c.loop-plan-test.true c.plan-item.is ∙ ap (λ (p : Planned). Some p) (sym c.deref.ensures)) c.most_cells.ensures c.max-most.ensures

pub returns : goal.returns
returns c n k p r at register =
    let here : slice_get (map (λ plan. plan.value) c.list-list.result.now) n ≡ Some p = ap (λ (ps : List Planned). slice_get ps n) c.list-list.ensures ∙ at in
    let inside : n < length c.list-list.result.now = map_inside (λ plan. plan.value) c.list-list.result.now n p here in
    c.loop-plan.invariant n k p r (omega (arith, inside, c.loop-plan-test.false)) here register
