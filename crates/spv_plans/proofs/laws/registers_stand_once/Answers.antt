use Rattle.spv_plans.specs.Plans.{plans_in}
use Rattle.spv_plans.proofs.FoundLemmas.{stands_once}
use Rattle.spv_plans.proofs.PlacedLemmas.{absent_from}
use Rattle.spv_plans.proofs.laws.registers_stand_once.Goals as goal

pub returns-clause-found : goal.returns-clause-found
returns-clause-found c = λ a id r accepted found. stands_once c.accepted_modules_are_valid.ensures a accepted id r found

pub returns-clause-absent : goal.returns-clause-absent
returns-clause-absent c = λ a id k p none at. absent_from 0 (plans_in a) id k p none at
