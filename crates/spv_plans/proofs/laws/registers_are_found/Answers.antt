use Rattle.spv_plans.proofs.FoundLemmas.{pointer_found, value_found}
use Rattle.spv_plans.proofs.laws.registers_are_found.Goals as goal

pub returns-clause-values : goal.returns-clause-values
returns-clause-values c = λ a function n id accepted has at. value_found c.accepted_modules_are_valid.ensures a accepted function n id has at

pub returns-clause-pointers : goal.returns-clause-pointers
returns-clause-pointers c = λ a function n id accepted has at. pointer_found c.accepted_modules_are_valid.ensures a accepted function n id has at
