use Rattle.spv_types.proofs.LengthLemmas.{length_here, length_numbers, length_others, length_sound}
use Rattle.spv_types.proofs.laws.lengths_leave_types_sound.Goals as goal

pub returns-clause-sound : goal.returns-clause-sound
returns-clause-sound c = length_sound

pub returns-clause-numbers : goal.returns-clause-numbers
returns-clause-numbers c = length_numbers

pub returns-clause-others : goal.returns-clause-others
returns-clause-others c = length_others

pub returns-clause-here : goal.returns-clause-here
returns-clause-here c = length_here
