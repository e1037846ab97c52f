use Rattle.spv_plans.proofs.FoundLemmas.{register_meant}
use Rattle.spv_plans.proofs.laws.registers_are_meant.Goals as goal

pub returns : goal.returns
returns c = λ a id r p accepted found at. register_meant c.accepted_modules_are_valid.ensures a accepted id r p found at
