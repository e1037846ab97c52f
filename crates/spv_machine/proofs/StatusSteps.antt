-- What a step of an invocation is, by its status.
use Rattle.std.proofs.Common.{◌≡◌, ◌≢◌, ◌∙◌, ℕ, ◌-◌, ◌<◌, Bool, false, List, [], ◌∷◌, Option, Some, None, Result, Ok, Err, length, slice_get, refl, sym, ap, subst, arith}
use Rattle.std.proofs.lemmas.Option.{slice_get_within}
use Rattle.std.specs.Option.{IsSomeAnd}
use Rattle.spv_base.specs.Entries.{reads}
use Rattle.spv_base.specs.declared.causes.Fail.{Fail}
use Rattle.spv_base.specs.declared.causes.Fail.TheVariants.{Refused, NoMemory}
use Rattle.spv_base.specs.declared.instructions.Inst.{Inst}
use Rattle.spv_base.specs.declared.values.Value.{Value}
use Rattle.spv_index.specs.Classes.{class_of, is_terminator, sets_of}
use Rattle.spv_index.specs.Definitions.{at}
use Rattle.spv_frame.specs.Frames.{Held as Frame}
use Rattle.spv_frame.specs.Stacks.{Stacked, top}
use Rattle.spv_statuses.specs.declared.invocations.Status.{Status}
use Rattle.spv_statuses.specs.declared.invocations.Status.TheVariants.{Ready, Arrived, Passed, Finished}
use Rattle.spv_valid.specs.Acceptance.{Accepted}
use Rattle.spv_sites.specs.Instructions.{effect_of}
use Rattle.spv_sites.specs.Planned.{IsDue}
use Rattle.spv_state.specs.Program.{Program}
use Rattle.spv_machine.specs.Reached.{IsReached, IsStepBy}
use Rattle.spv_state.specs.Sound.{IsBarrier, IsSound, IsSoundFrame, IsSoundStack, StandsAs}
use Rattle.spv_state.specs.State.{State, on_frame, on_frames, set_status, top_of, with_pc}
use Rattle.spv_machine.specs.Step.{Idles, Moves, at_frame, at_inst, by_status, fault_in, go_on, next_of, outcome, past_frame, plain, step_of, to_next}
use Rattle.spv_sites.specs.declared.causes.Cause.{Cause}
use Rattle.spv_sites.specs.declared.effects.Effect.{Effect}
use Rattle.spv_machine.proofs.SoundControl.{stands_before}
use Rattle.spv_state.proofs.Exports.{IsKnown, change_same, at_standing, standing, top_at}
use Rattle.spv_base.proofs.Exports.{element_at}

-- ---- the top frame of an invocation that is not finished

pub record HasTop (p : Program) (s : State) (i : ℕ) (t : Status) : Type 0 where
  pub frame : Frame
  pub top : top_of s i ≡ Some frame
  pub sound : IsSoundFrame p.accepted frame
  pub waits : StandsAs p.accepted t frame

pub last_frame : (fs : List Frame) → fs ≢ [] → (f : Frame) × (top fs ≡ Some f)
last_frame [] some = absurd (some refl)
last_frame (f ∷ fs) some = element_at (f ∷ fs) (length (f ∷ fs) - 1) (omega arith)

pub has_top : (p : Program) (s : State) (i : ℕ) (t : Status) → IsSound p s → i < length s.statuses.list → slice_get s.statuses.list i ≡ Some t → t ≢ Finished → HasTop p s i t
has_top p s i t sound inside status moves =
    let stacks = sound.stacks in
    let levels = sound.levels in
    let k = element_at s.stacks i (omega arith) in
    let l = element_at s.memory.locals i (omega arith) in
    let own : IsSoundStack p.accepted t k.0 l.0 = sound.each i t k.0 l.0 status k.1 l.1 in
    let f = last_frame k.0.frames (λ none. moves (own.finished.1 none)) in
    record { frame = f.0; top = top_at s i k.0 f.0 k.1 f.1; sound = own.frames (length k.0.frames - 1) f.0 f.1; waits = own.waits f.0 f.1 }

-- ---- a Ready invocation

-- its top frame stands at an instruction
pub ready_at : (p : Program) (s : State) (i : ℕ) (f : Frame) → IsKnown p.accepted → HasTop p s i Ready → top_of s i ≡ Some f → (d : Inst) × (at p.accepted.insts f.pc ≡ Some d)
ready_at p s i f known h is =
    let same : h.frame ≡ f = let own = h.top in cc in
    let stands = standing p.accepted h.frame.plan.function h.frame.pc h.sound.stands in
    (stands.stand.inst, subst (λ (x : Frame). at p.accepted.insts x.pc ≡ Some stands.stand.inst) same (at_standing p.accepted h.frame.plan.function h.frame.pc known stands))

-- the top frame of an invocation that has reached an instruction
pub reached_top : (p : Program) (s : State) (i : ℕ) (d : Inst) → IsReached p s i d → HasTop p s i Ready
reached_top p s i d r = has_top p s i Ready r.sound (slice_get_within s.statuses.list i Ready r.ready) r.ready (λ e. cc)

pub reached_inside : (p : Program) (s : State) (i : ℕ) (d : Inst) → IsReached p s i d → i < length s.stacks
reached_inside p s i d r =
    let inside = slice_get_within s.statuses.list i Ready r.ready in
    let stacks = r.sound.stacks in
    omega arith

pub reached_frame : (p : Program) (s : State) (i : ℕ) (d : Inst) (b : Accepted) → b ≡ p.accepted → IsReached p s i d → IsSomeAnd (top_of s i) (IsSoundFrame b)
reached_frame p s i d b same r =
    let h = reached_top p s i d r in
    subst (λ (o : Option Frame). IsSomeAnd o (IsSoundFrame b)) (sym h.top) (subst (λ (x : Accepted). IsSoundFrame x h.frame) (sym same) h.sound)

pub reached_step : (p : Program) (s : State) (i : ℕ) (d : Inst) (r : IsReached p s i d) → step_of p s i ≡ outcome p s i d (effect_of p s i r.frame d)
unfolding step_of
reached_step p s i d r = ap (by_status p s i) r.ready ∙ ap (at_frame p s i) r.top ∙ ap (at_inst p s i r.frame) r.at

pub step_by : (p : Program) (s : State) (i : ℕ) (d : Inst) (f : Frame) (v : Value) (result : Result Effect (Fail Cause)) → IsReached p s i d → top_of s i ≡ Some f → IsDue (effect_of p s i f d) v result
    → IsStepBy p s i d v result
step_by p s i d f v result r is due = by_result result due
  where
    step : step_of p s i ≡ outcome p s i d (effect_of p s i f d)
    step =
        let same : r.frame ≡ f = let own = r.top in cc in
        reached_step p s i d r ∙ ap (λ (x : Frame). outcome p s i d (effect_of p s i x d)) same

    by_result : (o : Result Effect (Fail Cause)) → IsDue (effect_of p s i f d) v o → IsStepBy p s i d v o
    by_result (Ok e) h = step ∙ ap (outcome p s i d) h
    by_result (Err (Refused cause)) h = step ∙ ap (outcome p s i d) h
    by_result (Err NoMemory) h = tt

-- ---- a Passed invocation

pub passed_step : (p : Program) (s : State) (i : ℕ) (f : Frame) → slice_get s.statuses.list i ≡ Some Passed → top_of s i ≡ Some f
    → step_of p s i ≡ Moves (plain i f.pc) (set_status i Ready (go_on p.accepted i s))
unfolding step_of
passed_step p s i f passed is = ap (by_status p s i) passed ∙ ap (past_frame p s i) is

-- it goes on behind its barrier
barrier_goes : (sets : List (ℕ × Bool)) (d : Inst) → d.op ≡ 224 → is_terminator (class_of sets d) ≡ false
barrier_goes sets d op = rw op refl

pub barrier_next : (p : Program) (s : State) (i : ℕ) (f : Frame) → IsKnown p.accepted → HasTop p s i Passed → top_of s i ≡ Some f → (word : ℕ) × (reads f.pc p.accepted.flow.nexts ≡ Some (Some word))
barrier_next p s i f known h is =
    let a = p.accepted in
    let barrier : IsBarrier a h.frame.pc = h.waits in
    let own : h.frame ≡ f = let top = h.top in cc in
    let next = stands_before a h.frame.plan.function h.frame.pc barrier.0 known h.sound.stands barrier.1 (barrier_goes (sets_of a.insts) barrier.0 barrier.2) in
    (next.0, subst (λ (x : Frame). reads x.pc a.flow.nexts ≡ Some (Some next.0)) own next.1)

-- ---- to the next executable, where the top frame stands

pub moved_is : (a : Accepted) (s : State) (i word : ℕ) (f : Frame) → top_of s i ≡ Some f → word ≡ next_of a f.pc → on_frame i (with_pc word) s ≡ to_next a i s
moved_is a s i word f is next =
    ap (λ (ks : List Stacked). record s { stacks = ks })
    (change_same i (on_frames (with_pc word)) (on_frames (λ x. with_pc (next_of a x.pc) x)) s.stacks (λ k stack.
    ap (λ (fs : List Frame). record k { frames = fs })
    (change_same (length k.frames - 1) (with_pc word) (λ x. with_pc (next_of a x.pc) x) k.frames (λ x here.
    let same : f ≡ x = let own = top_at s i k x stack here in cc in
    ap (λ (n : ℕ). with_pc n x) (next ∙ ap (λ (y : Frame). next_of a y.pc) same)))))

-- ---- an invocation that waits or is finished

pub arrived_step : (p : Program) (s : State) (i word : ℕ) → slice_get s.statuses.list i ≡ Some (Arrived word) → step_of p s i ≡ Idles
unfolding step_of
arrived_step p s i word status = ap (by_status p s i) status

pub finished_step : (p : Program) (s : State) (i : ℕ) → slice_get s.statuses.list i ≡ Some Finished → step_of p s i ≡ Idles
unfolding step_of
finished_step p s i status = ap (by_status p s i) status

-- none of these faults
pub passed_faultless : (p : Program) (s : State) (i : ℕ) → slice_get s.statuses.list i ≡ Some Passed → fault_in (step_of p s i) ≡ None
unfolding step_of
passed_faultless p s i passed = ap (λ (o : Option Status). fault_in (by_status p s i o)) passed ∙ by_frame (top_of s i)
  where
    by_frame : (o : Option Frame) → fault_in (past_frame p s i o) ≡ None
    by_frame None = refl
    by_frame (Some f) = refl
