use Rattle.std.proofs.Common.{◌≡◌, map, take}
use Rattle.spv_state.proofs.undoing.plans_copied.Given as goal

abbrev pub invariant-loop-plan : goal.invariant-loop-plan
invariant-loop-plan l = map (λ plan. plan.value) l.copies.items ≡ map (λ plan. plan.value) (take l.plan-index l.list)
