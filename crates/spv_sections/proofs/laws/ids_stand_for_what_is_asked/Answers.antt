use Rattle.spv_sections.proofs.InOrder.{from_order, in_order}
use Rattle.spv_sections.proofs.laws.ids_stand_for_what_is_asked.Goals as goal

pub returns : goal.returns
returns c = λ decoded. (in_order decoded, from_order decoded)
