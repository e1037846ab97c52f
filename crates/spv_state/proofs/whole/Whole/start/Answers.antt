use Rattle.std.proofs.Common.{◌∙◌, ap, subst, sym}
use Rattle.spv_valid.specs.Acceptance.{Accepted, IsAccepted}
use Rattle.spv_valid.specs.Validity.{IsValid}
use Rattle.spv_mem.specs.Memory.{Held as Memory, IsMemory}
use Rattle.spv_state.specs.Sound.{IsSound}
use Rattle.spv_state.specs.Start.{start_of}
use Rattle.spv_state.specs.State.{State}
use Rattle.spv_state.proofs.StartSound.{start_sound}
use Rattle.spv_state.proofs.whole.Whole.start.Goals as goal

pub returns-clause-sound : goal.returns-clause-sound
returns-clause-sound c =
    let p = c.args.m.now in
    let accepted = subst (λ (a : Accepted). ∥ IsAccepted a ∥₁) c.accepted.ensures.module c.insts-insts.ensures.accepted in
    let valid = subst (λ (a : Accepted). ∥ IsValid a ∥₁) c.accepted.ensures.module c.insts-insts.ensures.valid in
    let memory : ∥ IsMemory (start_of p).memory ∥₁ = subst (λ (m : Memory). ∥ IsMemory m ∥₁) (c.memory.ensures ∙ ap (λ (x : State). x.memory) c.in_ok-whole.ensures) c.keeps_types.ensures in
    subst (IsSound p) (sym c.in_ok-whole.ensures) (start_sound c.functions_have_their_plans.ensures.has p accepted valid c.setup-setup.ensures.fits memory)
