use Rattle.spv_plans.proofs.PlanOfLemmas.{apart, only}
use Rattle.spv_plans.proofs.FunctionLemmas.{plan_is}
use Rattle.spv_plans.proofs.laws.functions_have_their_plans.Goals as goal

pub returns-clause-has : goal.returns-clause-has
returns-clause-has c = λ a function accepted has. plan_is c.registers_are_counted.ensures c.accepted_modules_are_valid.ensures a accepted function has

pub returns-clause-only : goal.returns-clause-only
returns-clause-only c = λ a p accepted is. only a p (apart c.accepted_modules_are_valid.ensures a accepted p.function) is
