use Rattle.spv_plans.proofs.NumberLemmas.{at_contains, contains_at}
use Rattle.spv_plans.proofs.FunctionLemmas.{plan_found}
use Rattle.spv_plans.proofs.PlanOfLemmas.{function_is, plan_at, plan_from}
use Rattle.spv_plans.specs.Plans.{functions_in}
use Rattle.spv_plans.proofs.laws.plans_are_of_functions.Goals as goal

pub returns-clause-function : goal.returns-clause-function
returns-clause-function c = function_is

pub returns-clause-plans : goal.returns-clause-plans
returns-clause-plans c = λ a k p at. let of = plan_from a k p at in record { function = at_contains (functions_in a) k p.function of.at; is = of.is }

pub returns-clause-numbers : goal.returns-clause-numbers
returns-clause-numbers c = λ a function has. let k = contains_at (functions_in a) function has in record { number = k.0; at = plan_at a k.0 function k.1 }

pub returns-clause-found : goal.returns-clause-found
returns-clause-found c = plan_found
