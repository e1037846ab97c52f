use Rattle.spv_types.proofs.AcceptedLemmas.{accepted_sound}
use Rattle.spv_types.proofs.laws.accepted_types_are_sound.Goals as goal

pub returns : goal.returns
returns c = accepted_sound
