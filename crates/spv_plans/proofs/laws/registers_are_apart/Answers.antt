use Rattle.spv_plans.proofs.PlanOfLemmas.{apart}
use Rattle.spv_plans.proofs.laws.registers_are_apart.Goals as goal

pub returns : goal.returns
returns c = λ a function accepted. apart c.accepted_modules_are_valid.ensures a accepted function
