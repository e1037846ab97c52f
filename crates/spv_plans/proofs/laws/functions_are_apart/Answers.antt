use Rattle.spv_plans.proofs.FunctionLemmas.{functions_apart, plan_numbered}
use Rattle.spv_plans.proofs.laws.functions_are_apart.Goals as goal

pub returns-clause-functions : goal.returns-clause-functions
returns-clause-functions c = λ a accepted. functions_apart c.accepted_modules_are_valid.ensures a accepted

pub returns-clause-numbers : goal.returns-clause-numbers
returns-clause-numbers c = λ a k p accepted at. plan_numbered c.accepted_modules_are_valid.ensures a accepted k p at
