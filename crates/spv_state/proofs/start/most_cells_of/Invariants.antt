use Rattle.std.proofs.Common.{map}
use Rattle.spv_state.proofs.SizeLemmas.{PlansAreWithin}
use Rattle.spv_state.proofs.start.most_cells_of.Given as goal

-- no register of the plans so far has more
abbrev pub invariant-loop-plan : goal.invariant-loop-plan
invariant-loop-plan l = PlansAreWithin (map (λ plan. plan.value) l.list) l.plan-index l.most
