use Rattle.spv_effects.proofs.TypeLemmas.{scalars_are_lanes, value_lanes}
use Rattle.spv_effects.proofs.laws.values_are_their_lanes.Goals as goal

pub returns-clause-scalars : goal.returns-clause-scalars
returns-clause-scalars c = λ ts roots id w n v sound shape ty. (value_lanes ts roots id w n v sound shape ty).scalars

pub returns-clause-lanes : goal.returns-clause-lanes
returns-clause-lanes c = scalars_are_lanes

pub returns-clause-value : goal.returns-clause-value
returns-clause-value c = λ ts roots id w n v sound shape ty. (value_lanes ts roots id w n v sound shape ty).value
