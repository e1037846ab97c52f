-- Control that goes on leaves a sound state: to the next executable, or past a barrier.
use Rattle.std.proofs.Common.{◌≡◌, ◌∙◌, ℕ, ◌-◌, List, [], length, Option, Some, None, length-set, slice_get, slice_set, refl, sym, ap, subst, true, false}
use Rattle.std.specs.Option.{is_some, option_and_then, option_map_or}
use Rattle.spv_base.specs.Entries.{change, reads}
use Rattle.spv_base.specs.declared.instructions.Inst.{Inst}
use Rattle.spv_base.proofs.Exports.{length_change}
use Rattle.spv_index.specs.Classes.{class_of, is_terminator, sets_of}
use Rattle.spv_index.specs.Definitions.{at}
use Rattle.spv_actions.specs.Below.spv_mem.specs.Memory.{Levels}
use Rattle.spv_frame.specs.Frames.{Held as Frame}
use Rattle.spv_frame.specs.Stacks.{Stacked, top}
use Rattle.spv_statuses.specs.declared.invocations.Status.{Status}
use Rattle.spv_statuses.specs.declared.invocations.Status.TheVariants.{Ready, Arrived, Passed, Finished}
use Rattle.spv_valid.specs.Acceptance.{Accepted}
use Rattle.spv_state.specs.Events.{pass, passed}
use Rattle.spv_state.specs.Program.{Program}
use Rattle.spv_state.specs.Roots.{IsRooted}
use Rattle.spv_state.specs.Sound.{IsSound, IsSoundFrame, IsSoundStack, StandsAs, StandsIn}
use Rattle.spv_state.specs.State.{State, depth_of, on_frame, on_frames, set_status, top_of, with_pc}
use Rattle.spv_machine.specs.Step.{go_on, next_of, to_next}
use Rattle.spv_sites.proofs.Exports.{moved_kept}
use Rattle.spv_machine.proofs.SoundStacks.{AreSoundStacks, one_changed, top_kept}
use Rattle.spv_state.proofs.Exports.{passed_rooted, IsKnown, goes_on, change_none, set_is_change, frame_there, rooted_moved, passed_sound, Standing, at_standing, next_stands, standing, stands_there, class_is, top_at}

-- ---- a sound state after a change of one invocation

-- its status becomes another, its top frame changes
pub status_kept : (p : Program) (s : State) (i : ℕ) (u : Status) (g : Frame → Frame) → IsSound p s
    → ((t : Status) (k : Stacked) (l : Levels) → slice_get s.statuses.list i ≡ Some t → slice_get s.stacks i ≡ Some k → slice_get s.memory.locals i ≡ Some l → IsSoundStack p.accepted t k l
    → IsSoundStack p.accepted u (on_frames g k) l) → IsSound p (set_status i u (on_frame i g s))
status_kept p s i u g sound changed = record {
  plans = sound.plans;
  types = sound.types;
  targets = sound.targets;
  memory = sound.memory;
  words = sound.words;
  stacks = length_change i (on_frames g) s.stacks ∙ sound.stacks ∙ sym (length-set s.statuses.list i u);
  levels = sound.levels ∙ sym (length-set s.statuses.list i u);
  privates = sound.privates ∙ sym (length-set s.statuses.list i u);
  shared = sound.shared;
  own = sound.own;
  each = subst (λ (ls : List Levels). AreSoundStacks p.accepted (slice_set s.statuses.list i u) (change i (on_frames g) s.stacks) ls) (change_none i s.memory.locals)
      (subst (λ (ts : List Status). AreSoundStacks p.accepted ts (change i (on_frames g) s.stacks) (change i (λ l. l) s.memory.locals)) (sym (set_is_change i u s.statuses.list))
      (one_changed p.accepted i (λ _. u) (on_frames g) (λ l. l) s.statuses.list s.stacks s.memory.locals sound.each changed));
}

-- the status stays
pub frame_kept : (p : Program) (s : State) (i : ℕ) (g : Frame → Frame) → IsSound p s
    → ((t : Status) (k : Stacked) (l : Levels) → slice_get s.statuses.list i ≡ Some t → slice_get s.stacks i ≡ Some k → slice_get s.memory.locals i ≡ Some l → IsSoundStack p.accepted t k l
    → IsSoundStack p.accepted t (on_frames g k) l) → IsSound p (on_frame i g s)
frame_kept p s i g sound changed = record {
  plans = sound.plans;
  types = sound.types;
  targets = sound.targets;
  memory = sound.memory;
  words = sound.words;
  stacks = length_change i (on_frames g) s.stacks ∙ sound.stacks;
  levels = sound.levels;
  privates = sound.privates;
  shared = sound.shared;
  own = sound.own;
  each = subst (λ (ls : List Levels). AreSoundStacks p.accepted s.statuses.list (change i (on_frames g) s.stacks) ls) (change_none i s.memory.locals)
      (subst (λ (ts : List Status). AreSoundStacks p.accepted ts (change i (on_frames g) s.stacks) (change i (λ l. l) s.memory.locals)) (change_none i s.statuses.list)
      (one_changed p.accepted i (λ t. t) (on_frames g) (λ l. l) s.statuses.list s.stacks s.memory.locals sound.each changed));
}

-- ---- past debug instructions

passed_stands : (a : Accepted) (t : Status) (depth : ℕ) (f : Frame) → StandsAs a t f → StandsAs a t (passed a depth f)
passed_stands a Ready depth f h = tt
passed_stands a (Arrived word) depth f h = h
passed_stands a Passed depth f h = h
passed_stands a Finished depth f h = tt

-- the top frame passes debug events
pub pass_kept : (p : Program) (s : State) (i : ℕ) → IsKnown p.accepted → IsSound p s → IsSound p (pass p.accepted i s)
pass_kept p s i known sound =
    let a = p.accepted in
    let depth : ℕ = depth_of s i in
    let g : Frame → Frame = passed a depth in
    frame_kept p s i g sound (λ t k l status stack level kept.
    top_kept a t t k l g (λ f. refl) kept (λ e. e, λ e. e) (λ f here sf. passed_sound a known.accepted known.valid depth f sf) (λ f here rooted. passes k f stack here (kept.frames (length k.frames - 1) f here) rooted)
    (λ f here stands. passed_stands a t depth f stands))
  where
    passes : (k : Stacked) (f : Frame) → slice_get s.stacks i ≡ Some k → top k.frames ≡ Some f → IsSoundFrame p.accepted f → IsRooted p.accepted k.frames (length k.frames - 1) f
        → IsRooted p.accepted k.frames (length k.frames - 1) (passed p.accepted (depth_of s i) f)
    passes k f stack here sound rooted =
        let last : length k.frames - 1 ≡ depth_of s i = sym (ap (λ (o : Option Stacked). length (option_map_or (λ (x : Stacked). x.frames) o []) - 1) stack) in
        subst (λ (n : ℕ). IsRooted p.accepted k.frames (length k.frames - 1) (passed p.accepted n f)) last
        (passed_rooted p.accepted known.accepted known.valid k.frames (length k.frames - 1) f (frame_there p.accepted k.frames (length k.frames - 1) f here) sound rooted)

-- ---- the top frame of an invocation

-- ---- on to the next executable

next_there : (a : Accepted) (pc : ℕ) → goes_on a pc ≡ true → (word : ℕ) × (reads pc a.flow.nexts ≡ Some (Some word))
next_there a pc h = by_read (reads pc a.flow.nexts) h
  where
    by_read : (o : Option (Option ℕ)) → is_some (option_and_then (λ n. n) o) ≡ true → (word : ℕ) × (o ≡ Some (Some word))
    by_read None g = absurd (cc)
    by_read (Some None) g = absurd (cc)
    by_read (Some (Some word)) g = (word, refl)

-- an executable stands behind one that ends no block
pub stands_before : (a : Accepted) (function pc : ℕ) (d : Inst) → IsKnown a → StandsIn a function pc → at a.insts pc ≡ Some d → is_terminator (class_of (sets_of a.insts) d) ≡ false
    → (word : ℕ) × (reads pc a.flow.nexts ≡ Some (Some word))
stands_before a function pc d known stands here ends =
    let s : Standing a function pc = standing a function pc stands in
    let same : s.stand.inst ≡ d = let own = at_standing a function pc known s in cc in
    let goes : is_terminator s.stand.class ≡ false = ap is_terminator (class_is a.insts s.stand s.one ∙ ap (class_of (sets_of a.insts)) same) ∙ ends in
    let next = next_there a s.stand.inst.word (known.goes_on s.stand s.one s.stops goes) in
    (next.0, subst (λ (n : ℕ). reads n a.flow.nexts ≡ Some (Some next.0)) s.here next.1)

-- the word of the executable behind the one at a word, which is there
pub next_is : (a : Accepted) (pc word : ℕ) → reads pc a.flow.nexts ≡ Some (Some word) → next_of a pc ≡ word
next_is a pc word h = rw h refl

module _ (p : Program) (known : IsKnown p.accepted) where
  -- a frame behind whose instruction an executable stands
  moved : (f : Frame) (word : ℕ) → reads f.pc p.accepted.flow.nexts ≡ Some (Some word) → IsSoundFrame p.accepted f → IsSoundFrame p.accepted (with_pc (next_of p.accepted f.pc) f)
  moved f word next s =
      let a = p.accepted in
      let there = next_stands a f.plan.function f.pc word known (standing a f.plan.function f.pc s.stands) next in
      moved_kept a f (next_of a f.pc) (subst (StandsIn a f.plan.function) (sym (next_is a f.pc word next)) (stands_there a f.plan.function word there)) s

  -- the same of the top frame
  moved_top : (s : State) (i word : ℕ) (k : Stacked) (f own : Frame) → top_of s i ≡ Some own → reads own.pc p.accepted.flow.nexts ≡ Some (Some word) → slice_get s.stacks i ≡ Some k → top k.frames ≡ Some f
      → IsSoundFrame p.accepted f → IsSoundFrame p.accepted (with_pc (next_of p.accepted f.pc) f)
  moved_top s i word k f own is next stack here sf =
      let there = top_at s i k f stack here in
      let same : own ≡ f = cc in
      moved f word (subst (λ (x : Frame). reads x.pc p.accepted.flow.nexts ≡ Some (Some word)) same next) sf

  -- a Ready invocation goes on
  pub next_kept : (s : State) (i word : ℕ) (f : Frame) → IsSound p s → slice_get s.statuses.list i ≡ Some Ready → top_of s i ≡ Some f → reads f.pc p.accepted.flow.nexts ≡ Some (Some word)
      → IsSound p (go_on p.accepted i s)
  next_kept s i word f sound ready is next =
      let a = p.accepted in
      let g : Frame → Frame = λ x. with_pc (next_of a x.pc) x in
      pass_kept p (to_next a i s) i known (frame_kept p s i g sound (λ t k l status stack level kept.
      let same : Ready ≡ t = cc in
      top_kept a t t k l g (λ x. refl) kept (λ e. e, λ e. e) (λ x here sx. moved_top s i word k x f is next stack here sx)
      (λ x here rooted. rooted_moved a k.frames (length k.frames - 1) (next_of a x.pc) x rooted)
      (λ x here stands. subst (λ (u : Status). StandsAs a u (g x)) same tt)))

  -- a Passed invocation goes on, and is Ready
  pub past_kept : (s : State) (i word : ℕ) (f : Frame) → IsSound p s → slice_get s.statuses.list i ≡ Some Passed → top_of s i ≡ Some f → reads f.pc p.accepted.flow.nexts ≡ Some (Some word)
      → IsSound p (set_status i Ready (go_on p.accepted i s))
  past_kept s i word f sound passed is next =
      let a = p.accepted in
      let g : Frame → Frame = λ x. with_pc (next_of a x.pc) x in
      pass_kept p (set_status i Ready (to_next a i s)) i known (status_kept p s i Ready g sound (λ t k l status stack level kept.
      let same : Passed ≡ t = cc in
      top_kept a t Ready k l g (λ x. refl) kept (λ e. absurd (cc), λ e. absurd (cc)) (λ x here sx. moved_top s i word k x f is next stack here sx)
      (λ x here rooted. rooted_moved a k.frames (length k.frames - 1) (next_of a x.pc) x rooted) (λ x here stands. tt)))
