-- Whether an event idles or faults, in two states that look alike to its invocation.
use Rattle.std.proofs.Common.{◌≡◌, ◌∙◌, ℕ, List, Option, Some, None, Result, Ok, Err, slice_get, refl, sym, ap}
use Rattle.spv_base.specs.declared.happenings.Fault.{Fault}
use Rattle.spv_base.specs.declared.instructions.Inst.{Inst}
use Rattle.spv_index.specs.Definitions.{at}
use Rattle.spv_frame.specs.Frames.{Held as Frame}
use Rattle.spv_frame.specs.Stacks.{top}
use Rattle.spv_statuses.specs.declared.invocations.Status.{Status}
use Rattle.spv_statuses.specs.declared.invocations.Status.TheVariants.{Ready, Arrived, Passed, Finished}
use Rattle.spv_state.specs.Program.{Program}
use Rattle.spv_state.specs.State.{State, top_of}
use Rattle.spv_sites.specs.Effects.{Effect}
use Rattle.spv_sites.specs.Instructions.{effect_of}
use Rattle.spv_sites.specs.declared.causes.Cause.{Cause}
use Rattle.spv_machine.specs.Step as step
use Rattle.spv_machine.specs.Step.{Outcome, Idles, Moves, Faults, step_of}
use Rattle.spv_touch.specs.Touching.{touched_of}
use Rattle.spv_touch.specs.Views.{AreApart, LookAlike}
use Rattle.spv_order.specs.declared.events.Leaves.{Leaves}
use Rattle.spv_touch.proofs.EventLemmas.{effects, listed}
use Rattle.spv_touch.proofs.RowLemmas.{frames}
use Rattle.spv_touch.proofs.StepLemmas.{due_is}

-- nothing where it idles, else the fault, if there is one
abbrev kind : Outcome → Option (Option Fault)
kind Idles = None
kind (Moves h next) = Some None
kind (Faults fault) = Some (Some fault)

idle_kind : (o : Outcome) → kind o ≡ None → o ≡ Idles
idle_kind Idles h = refl
idle_kind (Moves happening next) h = cc
idle_kind (Faults fault) h = cc

fault_kind : (o : Outcome) (f : Fault) → kind o ≡ Some (Some f) → o ≡ Faults f
fault_kind Idles f h = cc
fault_kind (Moves happening next) f h = cc
fault_kind (Faults fault) f h = let same : fault ≡ f = cc in ap (λ (x : Fault). Faults x) same

module _ (p : Program) (s t : State) (i : ℕ) (some : List Leaves) (alike : LookAlike i some s t) (apart : AreApart some (touched_of p s i).reads) where
  by_result : (d : Inst) (r : Result Effect Cause) → kind (step.outcome p s i d r) ≡ kind (step.outcome p t i d r)
  by_result d (Ok e) = refl
  by_result d (Err cause) = refl

  by_inst : (f : Frame) (o : Option Inst) → slice_get s.statuses.list i ≡ Some Ready → top_of s i ≡ Some f → at p.accepted.insts f.pc ≡ o → kind (step.at_inst p s i f o) ≡ kind (step.at_inst p t i f o)
  by_inst f None ready tops here = refl
  by_inst f (Some d) ready tops here =
      by_result d (effect_of p s i f d)
      ∙ ap (λ (r : Result Effect Cause). kind (step.outcome p t i d r))
      (effects p s t i some alike f d (λ e done. listed p s t i some alike apart (record { frame = f; inst = d; effect = e }) (due_is p s i f d e ready tops here done)))

  by_top : (o : Option Frame) → slice_get s.statuses.list i ≡ Some Ready → top_of s i ≡ o → kind (step.at_frame p s i o) ≡ kind (step.at_frame p t i o)
  by_top None ready tops = refl
  by_top (Some f) ready tops = by_inst f (at p.accepted.insts f.pc) ready tops refl

  past : (o : Option Frame) → kind (step.past_frame p s i o) ≡ kind (step.past_frame p t i o)
  past None = refl
  past (Some f) = refl

  tops_same : top_of s i ≡ top_of t i
  tops_same = ap top (frames s t i alike.stack)

  by_status : (o : Option Status) → slice_get s.statuses.list i ≡ o → kind (step.by_status p s i o) ≡ kind (step.by_status p t i o)
  by_status None held = refl
  by_status (Some Ready) held = by_top (top_of s i) held refl ∙ ap (λ (o : Option Frame). kind (step.at_frame p t i o)) tops_same
  by_status (Some (Arrived word)) held = refl
  by_status (Some Passed) held = past (top_of s i) ∙ ap (λ (o : Option Frame). kind (step.past_frame p t i o)) tops_same
  by_status (Some Finished) held = refl

  kinds : kind (step_of p s i) ≡ kind (step_of p t i)
  unfolding step_of
  kinds = by_status (slice_get s.statuses.list i) refl ∙ ap (λ (o : Option Status). kind (step.by_status p t i o)) alike.status

  pub idles : step_of p s i ≡ Idles → step_of p t i ≡ Idles
  idles is = idle_kind (step_of p t i) (sym kinds ∙ ap kind is)

  pub faults : (f : Fault) → step_of p s i ≡ Faults f → step_of p t i ≡ Faults f
  faults f is = fault_kind (step_of p t i) f (sym kinds ∙ ap kind is)
