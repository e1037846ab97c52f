use Rattle.std.proofs.Common.{◌≡◌, ◌++◌, drop, map}
use Rattle.spv_frame.specs.Functions.{types_of}
use Rattle.spv_frame.proofs.functions.types_of.Given as goal

abbrev pub invariant-loop-plan : goal.invariant-loop-plan
invariant-loop-plan l = l.types.items ++ types_of (map (λ plan. plan.value) (drop l.plan-index l.list)) ≡ types_of (map (λ plan. plan.value) l.list)
