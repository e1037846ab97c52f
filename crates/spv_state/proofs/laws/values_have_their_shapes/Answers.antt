use Rattle.std.proofs.lemmas.List.Elements.{All-contains}
use Rattle.spv_state.specs.Events.{IsShapedEvent}
use Rattle.spv_state.proofs.RootLemmas.{frame_sound}
use Rattle.spv_state.proofs.StartSound.{passed_sound}
use Rattle.spv_state.proofs.VariableShapes.{variable_shaped}
use Rattle.spv_state.proofs.laws.values_have_their_shapes.Goals as goal

pub returns-clause-variables : goal.returns-clause-variables
returns-clause-variables c = variable_shaped

pub returns-clause-events : goal.returns-clause-events
returns-clause-events c = λ p s i depth f e sound at among. All-contains (IsShapedEvent p.accepted) f.events e (frame_sound p s sound i depth f at).captured among

pub returns-clause-passed : goal.returns-clause-passed
returns-clause-passed c = λ a depth f is sound. passed_sound a ∣ is ∣₁ ∣ c.accepted_modules_are_valid.ensures a is ∣₁ depth f sound
