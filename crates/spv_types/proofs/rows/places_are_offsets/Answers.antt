use Rattle.spv_types.proofs.OffsetLemmas.{places_add, scalars_lie}
use Rattle.spv_types.proofs.rows.places_are_offsets.Goals as goal

pub returns-clause-parts : goal.returns-clause-parts
returns-clause-parts c = λ ts id leaf offset part k path sound is inside. places_add ts sound path id leaf offset part k is.leaves is.bytes is.type_is inside

pub returns-clause-scalars : goal.returns-clause-scalars
returns-clause-scalars c = λ ts id leaf offset part path sound is scalar. scalars_lie ts sound path id leaf offset part is.leaves is.bytes is.type_is scalar
