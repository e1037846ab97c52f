use Rattle.std.proofs.Common.{map}
use Rattle.spv_plans.proofs.ReadLemmas.{Reading}
use Rattle.spv_plans.proofs.plans.plans_of.Given as goal

-- a plan for each function so far
abbrev pub invariant-loop-n : goal.invariant-loop-n
invariant-loop-n l = Reading l.accepted l.insts (map (λ plan. plan.value) l.list.items) l.n
