use Rattle.spv_machine.proofs.DefaultLemmas.{caller_there, frame_there, inst_there, next_there}
use Rattle.spv_state.proofs.Exports.{known}
use Rattle.spv_machine.proofs.laws.steps_find_what_they_need.Goals as goal

pub returns-clause-frame : goal.returns-clause-frame
returns-clause-frame c = frame_there

pub returns-clause-inst : goal.returns-clause-inst
returns-clause-inst c = λ p s i f is sound top. inst_there p s i f (known p.accepted ∣ is ∣₁ ∣ c.accepted_modules_are_valid.ensures p.accepted is ∣₁) sound top

pub returns-clause-next : goal.returns-clause-next
returns-clause-next c = λ p s i f d is sound top. next_there p s i f (known p.accepted ∣ is ∣₁ ∣ c.accepted_modules_are_valid.ensures p.accepted is ∣₁) sound top d

pub returns-clause-caller : goal.returns-clause-caller
returns-clause-caller c = caller_there
