-- From a sound state of an accepted module no default in the definition of a step is taken.
use Rattle.std.proofs.Common.{◌≡◌, ◌≢◌, ◌∙◌, ℕ, Option, Some, IsSome, slice_get, refl, sym, ap, subst, arith, false}
use Rattle.std.proofs.lemmas.Option.{slice_get_within}
use Rattle.spv_base.specs.Entries.{reads}
use Rattle.spv_base.specs.declared.instructions.Inst.{Inst}
use Rattle.spv_base.proofs.Exports.{element_at}
use Rattle.spv_index.specs.Classes.{class_of, is_terminator, sets_of}
use Rattle.spv_index.specs.Definitions.{at}
use Rattle.spv_frame.specs.Frames.{Held as Frame}
use Rattle.spv_statuses.specs.declared.invocations.Status.{Status}
use Rattle.spv_statuses.specs.declared.invocations.Status.TheVariants.{Finished, Ready}
use Rattle.spv_state.specs.Program.{Program}
use Rattle.spv_state.specs.Sound.{IsCallOf, IsSound, IsSoundFrame}
use Rattle.spv_state.specs.State.{State, pop_frame, top_of}
use Rattle.spv_state.proofs.Exports.{IsKnown, Standing, at_standing, standing, top_sound}
use Rattle.spv_machine.specs.Step.{next_of}
use Rattle.spv_machine.proofs.SoundCalls.{below, popped_top}
use Rattle.spv_machine.proofs.SoundControl.{next_is, stands_before}
use Rattle.spv_machine.proofs.StatusSteps.{has_top, last_frame}

-- an invocation that isn't finished has a top frame
pub frame_there : (p : Program) (s : State) (i : ℕ) (t : Status) → IsSound p s → slice_get s.statuses.list i ≡ Some t → t ≢ Finished → IsSome (top_of s i)
frame_there p s i t sound status moves =
    let h = has_top p s i t sound (slice_get_within s.statuses.list i t status) status moves in
    subst (λ (o : Option Frame). IsSome o) (sym h.top) refl

module _ (p : Program) (s : State) (i : ℕ) (f : Frame) (known : IsKnown p.accepted) (sound : IsSound p s) (is : top_of s i ≡ Some f) where
  own : IsSoundFrame p.accepted f
  own = top_sound p s i f sound is

  -- it stands at an instruction of the module
  pub inst_there : IsSome (at p.accepted.insts f.pc)
  inst_there =
      let stands : Standing p.accepted f.plan.function f.pc = standing p.accepted f.plan.function f.pc own.stands in
      subst (λ (o : Option Inst). IsSome o) (sym (at_standing p.accepted f.plan.function f.pc known stands)) refl

  -- behind it an executable stands, where it ends no block
  pub next_there : (d : Inst) → at p.accepted.insts f.pc ≡ Some d → is_terminator (class_of (sets_of p.accepted.insts) d) ≡ false → reads f.pc p.accepted.flow.nexts ≡ Some (Some (next_of p.accepted f.pc))
  next_there d here ends =
      let next = stands_before p.accepted f.plan.function f.pc d known own.stands here ends in
      next.1 ∙ ap (λ (n : ℕ). Some (Some n)) (sym (next_is p.accepted f.pc next.0 next.1))

-- the frame below the top one stands at a call
pub caller_there : (p : Program) (s : State) (i : ℕ) (f : Frame) → IsSound p s → slice_get s.statuses.list i ≡ Some Ready → top_of (pop_frame i s) i ≡ Some f → (function : ℕ) × IsCallOf p.accepted f.pc function
caller_there p s i f sound ready is =
    let inside = slice_get_within s.statuses.list i Ready ready in
    let stacks = sound.stacks in
    let levels = sound.levels in
    let k = element_at s.stacks i (omega arith) in
    let l = element_at s.memory.locals i (omega arith) in
    let stack = sound.each i Ready k.0 l.0 ready k.1 l.1 in
    let last = last_frame k.0.frames (λ none. let clash : Ready ≡ Finished = stack.finished.1 none in cc) in
    (last.0.plan.function, (below p.accepted k.0 l.0 last.0 f stack last.1 (sym (popped_top s i k.0 k.1) ∙ is)).call)
