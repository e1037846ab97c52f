-- An instruction stays reached while its effect is done.
use Rattle.std.proofs.Common.{◌≡◌, ◌∙◌, ℕ, ◌-◌, ◌<◌, List, [], ◌∷◌, Option, Some, None, length, slice_get, refl, sym, ap, subst, arith, rules}
use Rattle.std.proofs.lemmas.Option.{slice_get_within}
use Rattle.std.specs.List.{AllByRecursion}
use Rattle.std.specs.Option.{option_map, option_map_or}
use Rattle.spv_base.specs.Entries.{change}
use Rattle.spv_base.specs.Cell.{Cell}
use Rattle.spv_base.specs.declared.instructions.Inst.{Inst}
use Rattle.spv_base.specs.declared.values.Pointer.{Pointer}
use Rattle.spv_base.specs.declared.values.Value.{Value, Scalar, out-Value, the_lemmas}
use Rattle.spv_base.specs.declared.values.Value.TheOpen.{Value-F}
use Rattle.spv_base.proofs.Exports.{length_change, change_here, changed_at}
use Rattle.spv_index.specs.Definitions.{at, result_type}
use Rattle.spv_actions.specs.Below.spv_types.specs.Rows.{no_roots}
use Rattle.spv_actions.specs.Below.spv_types.specs.Shapes.{HasShape, pointer_in}
use Rattle.spv_actions.specs.Below.spv_mem.specs.Memory.{load_of}
use Rattle.spv_valid.specs.Acceptance.{Accepted, IsAccepted}
use Rattle.spv_valid.specs.Validity.{IsValid}
use Rattle.spv_frame.specs.Frames.{Held as Frame}
use Rattle.spv_frame.specs.Stacks.{Stacked, on_top, top}
use Rattle.spv_statuses.specs.declared.invocations.Status.{Status}
use Rattle.spv_statuses.specs.declared.invocations.Status.TheVariants.{Ready}
use Rattle.spv_sites.specs.Effects.{Leave}
use Rattle.spv_sites.specs.Fits.{LevelFits, ResultFits, ResultRooted, StoreFits}
use Rattle.spv_sites.specs.Planned.{IsGained, IsGiven, gained, gone}
use Rattle.spv_sites.specs.declared.effects.Control.{Control as CodeControl}
use Rattle.spv_sites.specs.declared.effects.Control.TheVariants.{Next as CodeNext, Jump as CodeJump, Enter as CodeEnter, Leave as CodeLeave, Wait as CodeWait}
use Rattle.spv_sites.specs.declared.effects.Gain.{Gain}
use Rattle.spv_sites.specs.declared.effects.Gain.TheVariants.{Nothing, Row, Pointer as PointerTo, Handed}
use Rattle.spv_sites.proofs.Exports.{RegisterFits, register_kept, register_stays, register_rooted}
use Rattle.spv_state.specs.Program.{Program}
use Rattle.spv_state.specs.Roots.{IsRoot}
use Rattle.spv_state.specs.Sound.{StandsAs}
use Rattle.spv_state.specs.State.{State, frames_of, on_frame, on_frames, put_store, top_of, with_register}
use Rattle.spv_state.proofs.Exports.{IsKnown, known_as, Stood, ids_changed, root_stays, stand_inst, stood}
use Rattle.spv_machine.specs.Reached.{IsCarried, IsHeld, IsReached}
use Rattle.spv_machine.specs.Step.{put_result}
use Rattle.spv_machine.proofs.SoundBarriers.{word_within}
use Rattle.spv_machine.proofs.SoundControl.{frame_kept}
use Rattle.spv_machine.proofs.SoundStacks.{frames_are, top_kept}
use Rattle.spv_machine.proofs.SoundStores.{store_kept}

-- ---- the store

pub stored_reached : (p : Program) (s : State) (i : ℕ) (d : Inst) (o : Option (Pointer × Value)) → StoreFits s i o → IsReached p s i d → IsReached p (put_store i o s) i d
stored_reached p s i d None fits r = r
stored_reached p s i d (Some e) fits r = record { sound = store_kept p s i (Some e) fits r.sound; ready = r.ready; frame = r.frame; top = r.top; at = r.at }

-- the instruction that is reached is one of the module, and stands where the frame does
pub reached_stood : (p : Program) (s : State) (i : ℕ) (d : Inst) (r : IsReached p s i d) → Stood p.accepted.insts r.frame.pc d
reached_stood p s i d r = stood p.accepted.insts r.frame.pc d r.at

pub word_is : (p : Program) (s : State) (i : ℕ) (d : Inst) (r : IsReached p s i d) → d.word ≡ r.frame.pc
word_is p s i d r = (reached_stood p s i d r).here

-- ---- the row

-- what a register takes is the same behind the store, and lies in the row
pub held_behind : (s : State) (i : ℕ) (store : Option Pointer) (gain : Gain) (v w : Value) → IsGained s i store gain v → (store ≡ None → w ≡ v) → ((q : Pointer) → store ≡ Some q → load_of s.memory i q ≡ Some w)
    → IsHeld gain w × (gained gain w ≡ gained gain v)
held_behind s i store Nothing v w taken same handed = (tt, refl)
held_behind s i None Row v w taken same handed = (subst (λ (x : Value). pointer_in (out-Value x) ≡ None) (sym (same refl)) taken, ap (λ (x : Value). Some x) (same refl))
held_behind s i (Some q) Row v w taken same handed = absurd taken
held_behind s i store (PointerTo b) v w taken same handed = (tt, refl)
held_behind s i None (Handed c) v w taken same handed = absurd taken
held_behind s i (Some q) (Handed c) v w taken same handed =
    let there = handed q refl in
    let is : w ≡ Scalar c = cc in
    (is, refl)

-- what a function gives is the same behind the store and the result, and lies in the row
module _ (s : State) (i : ℕ) (store : Option Pointer) (gain : Gain) (v w x : Value) where
  pub given_behind : (control : CodeControl) → IsGiven s i control store gain v → (store ≡ None → w ≡ v) → (gain ≡ Nothing → x ≡ w) → gone control x ≡ gone control v
  given_behind CodeNext given one other = refl
  given_behind (CodeJump block phis) given one other = refl
  given_behind (CodeEnter b) given one other = refl
  given_behind (CodeLeave out) given one other = ap (λ (y : Value). Leave (gained out y)) (other given.1 ∙ one given.0)
  given_behind CodeWait given one other = refl

  pub carried_behind : (control : CodeControl) → IsGiven s i control store gain v → (store ≡ None → w ≡ v) → (gain ≡ Nothing → x ≡ w) → IsCarried control x
  carried_behind CodeNext given one other = tt
  carried_behind (CodeJump block phis) given one other = given
  carried_behind (CodeEnter b) given one other = tt
  carried_behind (CodeLeave out) given one other = subst (IsHeld out) (sym (other given.1 ∙ one given.0)) (held_behind s i None out v v given.2 (λ e. refl) (λ q e. absurd (cc))).0
  carried_behind CodeWait given one other = tt

-- a value that a register takes from the row is no pointer
pub scalar_plain : (v : Value) (c : Cell) → v ≡ Scalar c → pointer_in (out-Value v) ≡ None
scalar_plain v c is = search (rules, the_lemmas)

-- ---- the register

-- a value that is no pointer has the shape of data
pub plain_shape : (a : Accepted) (ty : ℕ) (v : Value) (level : Value-F Value) → LevelFits a ty v level → pointer_in level ≡ None → HasShape a.types no_roots ty v
plain_shape a ty v (Value-F.Scalar c) fits plain = fits
plain_shape a ty v (Value-F.List vs) fits plain = fits
plain_shape a ty v (Value-F.Ptr q) fits plain = absurd (cc)

-- the top frame after a change of it
top_changed : (fs : List Frame) (g : Frame → Frame) (f : Frame) → top fs ≡ Some f → top (change (length fs - 1) g fs) ≡ Some (g f)
top_changed fs g f is =
    ap (λ (n : ℕ). slice_get (change (length fs - 1) g fs) (n - 1)) (length_change (length fs - 1) g fs) ∙ changed_at (length fs - 1) g fs f is

pub frame_changed : (s : State) (i : ℕ) (g : Frame → Frame) (f : Frame) → top_of s i ≡ Some f → top_of (on_frame i g s) i ≡ Some (g f)
frame_changed s i g f is = by_stack (slice_get s.stacks i) (change_here i (on_frames g) s.stacks) is
  where
    by_stack : (o : Option Stacked) → slice_get (change i (on_frames g) s.stacks) i ≡ option_map (on_frames g) o → top (option_map_or (λ (k : Stacked). k.frames) o []) ≡ Some f
        → top_of (on_frame i g s) i ≡ Some (g f)
    by_stack None there own = absurd (cc)
    by_stack (Some k) there own = rw there (top_changed k.frames g f own)

-- the frames behind a store, and behind a change of the top one
pub stored_frames : (s : State) (i : ℕ) (o : Option (Pointer × Value)) → frames_of (put_store i o s) i ≡ frames_of s i
stored_frames s i None = refl
stored_frames s i (Some e) = refl

pub frames_changed : (s : State) (i : ℕ) (g : Frame → Frame) → frames_of (on_frame i g s) i ≡ on_top g (frames_of s i)
frames_changed s i g = ap (λ (o : Option Stacked). option_map_or (λ (k : Stacked). k.frames) o []) (change_here i (on_frames g) s.stacks) ∙ by_stack (slice_get s.stacks i)
  where
    by_stack : (o : Option Stacked) → option_map_or (λ (k : Stacked). k.frames) (option_map (on_frames g) o) [] ≡ on_top g (option_map_or (λ (k : Stacked). k.frames) o [])
    by_stack None = refl
    by_stack (Some k) = refl

-- what a register takes is there behind a change of the top frame
pub result_stays : (a : Accepted) (g : Frame → Frame) (fs : List Frame) (o : Option Value) → ((f : Frame) → (g f).plan ≡ f.plan) → ResultRooted a fs o → ResultRooted a (on_top g fs) o
result_stays a g fs None plan h = tt
result_stays a g fs (Some v) plan h = λ q is.
    subst (λ (n : ℕ). IsRoot a (on_top g fs) (n - 1) q.root) (sym (length_change (length fs - 1) g fs))
    (root_stays a fs (on_top g fs) (length fs - 1) q.root (λ n le. ids_changed a g (length fs - 1) n fs plan) (h q is))

-- and so is what each phi takes
pub phis_stay : (a : Accepted) (g : Frame → Frame) (fs : List Frame) (rs : List (ℕ × Value)) → ((f : Frame) → (g f).plan ≡ f.plan) → AllByRecursion (λ (r : ℕ × Value). ResultRooted a fs (Some r.1)) rs
    → AllByRecursion (λ (r : ℕ × Value). ResultRooted a (on_top g fs) (Some r.1)) rs
phis_stay a g fs [] plan h = tt
phis_stay a g fs (r ∷ rs) plan h = (result_stays a g fs (Some r.1) plan h.0, phis_stay a g fs rs plan h.1)

module _ (p : Program) (known : IsKnown p.accepted) where
  -- the type of its register is that of its result
  pub result_fits : (s : State) (i : ℕ) (d : Inst) (v : Value) → IsReached p s i d → ResultFits p.accepted d (Some v) → RegisterFits p.accepted d.id v (out-Value v)
  result_fits s i d v r fits ty typed =
      let there = reached_stood p s i d r in
      let inst : slice_get p.accepted.insts there.one.number ≡ Some d = stand_inst p.accepted.insts there.one.number there.stand there.one.is ∙ ap (λ (x : Inst). Some x) there.inst in
      let same = known.types there.one.number ty d inst typed in
      subst (λ (t : ℕ). LevelFits p.accepted t v (out-Value v)) (sym same) fits

  pub result_shape : (s : State) (i : ℕ) (d : Inst) (v : Value) (b : Accepted) → b ≡ p.accepted → IsReached p s i d → ResultFits p.accepted d (Some v) → pointer_in (out-Value v) ≡ None
      → (ty : ℕ) → result_type b.insts d.id ≡ Some ty → HasShape b.types no_roots ty v
  result_shape s i d v b same r fits plain =
      subst (λ (x : Accepted). (ty : ℕ) → result_type x.insts d.id ≡ Some ty → HasShape x.types no_roots ty v) (sym same)
      (λ ty typed. plain_shape p.accepted ty v (out-Value v) (result_fits s i d v r fits ty typed) plain)

  -- a register of the top frame takes a value of its type
  pub register_reached : (s : State) (i : ℕ) (d : Inst) (id : ℕ) (v : Value) → IsReached p s i d → RegisterFits p.accepted id v (out-Value v) → ResultRooted p.accepted (frames_of s i) (Some v)
      → IsReached p (on_frame i (with_register id v) s) i d
  register_reached s i d id v r fits rooted =
      let g : Frame → Frame = with_register id v in
      let stays = register_stays r.frame id v in
      record {
        sound = frame_kept p s i g r.sound (λ t k l status stack level kept.
            let same : Ready ≡ t = let own = r.ready in cc in
            top_kept p.accepted t t k l g (λ f. (register_stays f id v).0) kept (λ e. e, λ e. e) (λ f here sf. register_kept p.accepted f id v fits sf)
            (λ f here held. register_rooted p.accepted k.frames (length k.frames - 1) f id v (subst (λ (fs : List Frame). ResultRooted p.accepted fs (Some v)) (frames_are s i k stack) rooted) held)
            (λ f here stands. subst (λ (u : Status). StandsAs p.accepted u (g f)) same tt));
        ready = r.ready;
        frame = g r.frame;
        top = frame_changed s i g r.frame r.top;
        at = ap (at p.accepted.insts) stays.1 ∙ r.at;
      }

  pub set_reached : (s : State) (i : ℕ) (d : Inst) (o : Option Value) → IsReached p s i d → ResultFits p.accepted d o → ResultRooted p.accepted (frames_of s i) o → IsReached p (put_result i d.id o s) i d
  set_reached s i d None r fits rooted = r
  set_reached s i d (Some v) r fits rooted = register_reached s i d d.id v r (result_fits s i d v r fits) rooted

-- ---- the module

-- what is known of an accepted module
pub record Facts (a : Accepted) : Type 0 where
  pub accepted : ∥ IsAccepted a ∥₁
  pub valid : ∥ IsValid a ∥₁
  pub known : IsKnown a

pub facts : (a b : Accepted) → b ≡ a → ∥ IsAccepted b ∥₁ → ∥ IsValid b ∥₁ → Facts a
facts a b same accepted valid = record {
  accepted = subst (λ (x : Accepted). ∥ IsAccepted x ∥₁) same accepted;
  valid = subst (λ (x : Accepted). ∥ IsValid x ∥₁) same valid;
  known = known_as a b same accepted valid;
}

-- an instruction that is reached stands at one of the module's words
pub reached_word : (p : Program) → Facts p.accepted → (s : State) (i : ℕ) (d : Inst) → IsReached p s i d → d.word < s.statuses.words
reached_word p known s i d r =
    let here : at p.accepted.insts d.word ≡ Some d = ap (at p.accepted.insts) (word_is p s i d r) ∙ r.at in
    subst (λ (n : ℕ). d.word < n) (sym r.sound.words) (word_within p.accepted d.word d known.accepted here)

pub levels_inside : (p : Program) (s : State) (i : ℕ) (d : Inst) → IsReached p s i d → i < length s.memory.locals
levels_inside p s i d r =
    let inside = slice_get_within s.statuses.list i Ready r.ready in
    let levels = r.sound.levels in
    omega arith
