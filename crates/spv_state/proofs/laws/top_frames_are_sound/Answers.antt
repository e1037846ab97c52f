use Rattle.spv_state.proofs.TopLemmas.{of_function, top_sound}
use Rattle.spv_state.proofs.laws.top_frames_are_sound.Goals as goal

pub returns-clause-frame : goal.returns-clause-frame
returns-clause-frame c p s i f sound top = top_sound p s i f sound top

pub returns-clause-function : goal.returns-clause-function
returns-clause-function c a f sound = of_function a f sound
