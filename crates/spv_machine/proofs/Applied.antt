-- An effect that fits is the definition's, piece by piece, and leaves a sound state.
use Rattle.std.proofs.Common.{◌≡◌, ◌∙◌, ℕ, ◌-◌, ◌++◌, Bool, true, false, List, [], ◌∷◌, Option, Some, None, length, length-set, refl, sym, ap, subst}
use Rattle.std.proofs.lemmas.List.{length-map}
use Rattle.std.specs.Prelude.{if◌then◌else◌}
use Rattle.std.specs.Option.{option_map}
use Rattle.spv_base.specs.Entries.{reads}
use Rattle.spv_base.specs.declared.instructions.Inst.{Inst}
use Rattle.spv_base.specs.declared.values.Pointer.{Pointer}
use Rattle.spv_base.specs.declared.values.Value.{Value}
use Rattle.spv_base.proofs.Exports.{length_change}
use Rattle.spv_valid.specs.Acceptance.{Accepted}
use Rattle.spv_frame.specs.Frames.{Held as Frame}
use Rattle.spv_frame.specs.Stacks.{on_top}
use Rattle.spv_statuses.specs.Group.{Held as Statuses, first_waiting}
use Rattle.spv_statuses.specs.Invocations.{once_opened}
use Rattle.spv_statuses.specs.declared.invocations.Status.TheVariants.{Arrived, Finished}
use Rattle.spv_sites.specs.Effects.{Control, Effect, Next, Jump, Enter, Leave, Wait}
use Rattle.spv_sites.specs.Fits.{ControlFits, ControlRooted, Fits, LeaveFits, ResultRooted}
use Rattle.spv_sites.specs.Planned.{gained, gone, shown}
use Rattle.spv_sites.proofs.Exports.{register_stays}
use Rattle.spv_sites.specs.declared.effects.Effect.{Effect as CodeEffect}
use Rattle.spv_state.specs.Program.{Program}
use Rattle.spv_state.specs.Roots.{IsRooted}
use Rattle.spv_state.specs.Sound.{IsSound}
use Rattle.spv_state.specs.State.{State, frames_of, on_frame, open_barrier, pop_frame, put_store, top_of, with_register}
use Rattle.spv_state.proofs.Exports.{ids_below, rooted_stays}
use Rattle.spv_machine.specs.Reached.{IsReached}
use Rattle.spv_machine.specs.Step.{apply, arrived, finish, finished, go, go_on, leave, opened, opened_at, opens, put_result, resume}
use Rattle.spv_machine.proofs.SoundBarriers.{arrive_sound, finish_sound}
use Rattle.spv_machine.proofs.SoundCalls.{entered_sound, finished_sound}
use Rattle.spv_machine.proofs.SoundControl.{next_kept}
use Rattle.spv_machine.proofs.SoundJumps.{jump_kept}
use Rattle.spv_machine.proofs.ReachedLemmas.{Facts, frames_changed, phis_stay, set_reached, stored_frames, stored_reached, word_is}
use Rattle.spv_machine.proofs.ReturnLemmas.{CalledBy, LeftAt, given_rooted, left_all, left_finished, left_to}

-- ---- a sound state behind each way of control

module _ (p : Program) (known : Facts p.accepted) (s : State) (i : ℕ) (d : Inst) (r : IsReached p s i d) where
  go_on_sound : ((word : ℕ) × (reads d.word p.accepted.flow.nexts ≡ Some (Some word))) → IsSound p (go_on p.accepted i s)
  go_on_sound next =
      next_kept p known.known s i next.0 r.frame r.sound r.ready r.top (subst (λ (n : ℕ). reads n p.accepted.flow.nexts ≡ Some (Some next.0)) (word_is p s i d r) next.1)

-- what is kept in the frame of a function that is called is there behind the result too
abbrev IsRootedAbove : Accepted → State → ℕ → Frame → Type 0
IsRootedAbove a s i f = IsRooted a (frames_of s i ++ f ∷ []) (length (frames_of s i)) f

frame_passed : (a : Accepted) (s : State) (i id : ℕ) (v : Value) (f : Frame) → IsRootedAbove a s i f → IsRootedAbove a (on_frame i (with_register id v) s) i f
frame_passed a s i id v f passed =
    let fs = frames_of s i in
    let g : Frame → Frame = with_register id v in
    let own = rooted_stays a (fs ++ f ∷ []) (on_top g fs ++ f ∷ []) (length fs) f (λ n le. ids_below a g (length fs - 1) n fs (f ∷ []) (λ h. (register_stays h id v).0)) passed in
    subst (λ (gs : List Frame). IsRooted a (gs ++ f ∷ []) (length gs) f) (sym (frames_changed s i g))
    (subst (λ (n : ℕ). IsRooted a (on_top g fs ++ f ∷ []) n f) (sym (length_change (length fs - 1) g fs)) own)

pub control_stays : (a : Accepted) (s : State) (i id : ℕ) (o : Option Value) (c : Control) → ControlRooted a (frames_of s i) c → ControlRooted a (frames_of (put_result i id o s) i) c
control_stays a s i id None c passed = passed
control_stays a s i id (Some v) Next passed = tt
control_stays a s i id (Some v) (Jump block phis) passed =
    subst (λ (fs : List Frame). ControlRooted a fs (Jump block phis)) (sym (frames_changed s i (with_register id v)))
    (phis_stay a (with_register id v) (frames_of s i) phis (λ f. (register_stays f id v).0) passed)
control_stays a s i id (Some v) (Enter frame es) passed = frame_passed a s i id v frame passed
control_stays a s i id (Some v) (Leave value) passed = passed
control_stays a s i id (Some v) Wait passed = tt

-- what a register takes is there behind the store
pub stored_rooted : (a : Accepted) (s after : State) (i : ℕ) (store : Option (Pointer × Value)) (o : Option Value) → after ≡ put_store i store s → ResultRooted a (frames_of s i) o → ResultRooted a (frames_of after i) o
stored_rooted a s after i store o is h =
    subst (λ (fs : List Frame). ResultRooted a fs o) (sym (ap (λ (x : State). frames_of x i) is ∙ stored_frames s i store)) h

-- what control takes along is there behind the store
pub stored_passed : (a : Accepted) (s after : State) (i : ℕ) (store : Option (Pointer × Value)) (c : Control) → after ≡ put_store i store s → ControlRooted a (frames_of s i) c → ControlRooted a (frames_of after i) c
stored_passed a s after i store c is h =
    subst (λ (fs : List Frame). ControlRooted a fs c) (sym (ap (λ (x : State). frames_of x i) is ∙ stored_frames s i store)) h

module _ (p : Program) (known : Facts p.accepted) where
  leave_sound : (s : State) (i : ℕ) (d : Inst) (o : Option Value) → IsReached p s i d → LeaveFits p.accepted d o → ResultRooted p.accepted [] o → IsSound p (leave p i o s)
  leave_sound s i d o r fits passed = by_left (LeftAt p s i) refl
    where
      by_left : (x : Option Inst) → LeftAt p s i ≡ x → IsSound p (leave p i o s)
      by_left None e =
          subst (IsSound p) (sym (left_finished p known s i d r o e)) (finish_sound p (pop_frame i s) i (finished_sound p s i r.sound r.ready (left_all p known s i d r e)))
      by_left (Some c) e =
          let by : CalledBy p s i d c = left_to p known s i d r c e in
          let two = set_reached p known.known (pop_frame i s) i c o by.reached (by.fits o fits) (given_rooted p.accepted o (frames_of (pop_frame i s) i) passed) in
          subst (IsSound p) (sym (by.leaves o)) (go_on_sound p known (put_result i c.id o (pop_frame i s)) i c two by.next)

  pub gone_sound : (s : State) (i : ℕ) (d : Inst) (c : Control) → IsReached p s i d → ControlFits p.accepted d c → ControlRooted p.accepted (frames_of s i) c → IsSound p (go p i d.word c s)
  gone_sound s i d Next r fits passed = go_on_sound p known s i d r fits
  gone_sound s i d (Jump block phis) r fits passed = jump_kept p s i d block phis known.accepted known.known r (word_is p s i d r) fits passed
  gone_sound s i d (Enter frame es) r fits passed = entered_sound p s i r.sound r.ready d r.frame frame es r.top (word_is p s i d r) fits passed
  gone_sound s i d (Leave o) r fits passed = leave_sound s i d o r fits passed
  gone_sound s i d Wait r fits passed = arrive_sound p s i d.word r.frame r.sound r.ready r.top (sym (word_is p s i d r)) fits

  -- an effect that fits leaves a sound state
  pub applied_sound : (s : State) (i : ℕ) (d : Inst) (e : Effect) → IsReached p s i d → Fits p s i d e → IsSound p (apply p i d e s)
  applied_sound s i d e r fits =
      let first = put_store i e.store s in
      let one = stored_reached p s i d e.store fits.store r in
      let frames = sym (stored_frames s i e.store) in
      let two = set_reached p known.known first i d e.result one fits.result (subst (λ (fs : List Frame). ResultRooted p.accepted fs e.result) frames fits.rooted) in
      gone_sound (put_result i d.id e.result first) i d e.control two fits.control
      (control_stays p.accepted first i d.id e.result e.control (subst (λ (fs : List Frame). ControlRooted p.accepted fs e.control) frames fits.passed))

-- ---- the statuses

statuses_stay : (i id : ℕ) (store : Option (Pointer × Value)) (o : Option Value) (s : State) → (put_result i id o (put_store i store s)).statuses ≡ s.statuses
statuses_stay i id None None s = refl
statuses_stay i id None (Some v) s = refl
statuses_stay i id (Some e) None s = refl
statuses_stay i id (Some e) (Some v) s = refl

-- ---- an effect, done piece by piece

module _ (p : Program) (i : ℕ) (d : Inst) (e : CodeEffect) (v w x : Value) (s s1 s2 : State) (one : s1 ≡ put_store i (option_map (λ (q : Pointer). (q, v)) e.store) s) (two : s2 ≡ put_result i d.id (gained e.gain w) s1)
    (gain : gained e.gain w ≡ gained e.gain v) (control : gone e.control x ≡ gone e.control v) where
  before_control : s2 ≡ put_result i d.id (gained e.gain v) (put_store i (option_map (λ (q : Pointer). (q, v)) e.store) s)
  before_control = two ∙ ap (λ (o : Option Value). put_result i d.id o s1) gain ∙ ap (put_result i d.id (gained e.gain v)) one

  pub applied_is : go p i d.word (gone e.control x) s2 ≡ apply p i d (shown e v) s
  applied_is = ap (λ (c : Control). go p i d.word c s2) control ∙ ap (go p i d.word (gone e.control v)) before_control

-- ---- how many invocations there are

opened_count : (p : Program) (word : ℕ) (s : State) → length (opened p word s).statuses.list ≡ length s.statuses.list
opened_count p word s = by_test (opens p word s)
  where
    by_test : (b : Bool) → length (if b then open_barrier s else s).statuses.list ≡ length s.statuses.list
    by_test true = length-map s.statuses.list once_opened
    by_test false = refl

finish_count : (p : Program) (i : ℕ) (s : State) → length (finish p i s).statuses.list ≡ length s.statuses.list
finish_count p i s = by_count p.setup.finished_count ∙ length-set s.statuses.list i Finished
  where
    by_first : (o : Option ℕ) → length (opened_at p o (finished i s)).statuses.list ≡ length (finished i s).statuses.list
    by_first None = refl
    by_first (Some word) = opened_count p word (finished i s)

    by_count : (b : Bool) → length (if b then opened_at p (first_waiting (finished i s).statuses.list) (finished i s) else finished i s).statuses.list ≡ length (finished i s).statuses.list
    by_count true = by_first (first_waiting (finished i s).statuses.list)
    by_count false = refl

resume_count : (p : Program) (i : ℕ) (v : Option Value) (s : State) (o : Option Frame) → length (resume p i v s o).statuses.list ≡ length s.statuses.list
resume_count p i v s None = finish_count p i s
resume_count p i None s (Some f) = refl
resume_count p i (Some v) s (Some f) = refl

gone_count : (p : Program) (i word : ℕ) (c : Control) (s : State) → length (go p i word c s).statuses.list ≡ length s.statuses.list
gone_count p i word Next s = refl
gone_count p i word (Jump block phis) s = refl
gone_count p i word (Enter frame es) s = refl
gone_count p i word (Leave v) s = resume_count p i v (pop_frame i s) (top_of (pop_frame i s) i)
gone_count p i word Wait s = opened_count p word (arrived i word s) ∙ length-set s.statuses.list i (Arrived word)

pub applied_count : (p : Program) (i : ℕ) (d : Inst) (e : Effect) (s : State) → length (apply p i d e s).statuses.list ≡ length s.statuses.list
applied_count p i d e s =
    gone_count p i d.word e.control (put_result i d.id e.result (put_store i e.store s)) ∙ ap (λ (x : Statuses). length x.list) (statuses_stay i d.id e.store e.result s)
