use Rattle.spv_effects.proofs.FormLemmas.{leaves_filled}
use Rattle.spv_effects.proofs.LaneLemmas.{leaves_of_lanes}
use Rattle.spv_effects.proofs.laws.leaves_are_those_given.Goals as goal

pub returns-clause-lanes : goal.returns-clause-lanes
returns-clause-lanes c = leaves_of_lanes

pub returns-clause-form : goal.returns-clause-form
returns-clause-form c = leaves_filled
