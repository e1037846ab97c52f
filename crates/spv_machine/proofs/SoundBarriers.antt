-- Arrivals at barriers leave a sound state: an invocation that waits at a barrier, or has passed it, stands there.
use Rattle.std.proofs.Common.{◌≡◌, ◌∙◌, ◌↔◌, ℕ, zero, suc, ◌-◌, ◌<◌, ◌≤◌, Bool, true, false, List, [], ◌∷◌, Option, Some, None, length, length-set, map, slice_get, slice_set, refl, sym, ap, subst, arith}
use Rattle.std.proofs.Math.Logic.{∥∥₁_elim}
use Rattle.std.proofs.Props.{props}
use Rattle.std.proofs.lemmas.List.{length-map}
use Rattle.std.proofs.lemmas.Option.{slice_get_within}
use Rattle.std.specs.Prelude.{if◌then◌else◌}
use Rattle.std.specs.Option.{option_map_or}
use Rattle.spv_base.specs.Entries.{change}
use Rattle.spv_base.specs.Order.{Ascend}
use Rattle.spv_base.specs.declared.instructions.Inst.{Inst}
use Rattle.spv_index.specs.Definitions.{at}
use Rattle.spv_actions.specs.Below.spv_mem.specs.Memory.{Levels}
use Rattle.spv_frame.specs.Frames.{Held as Frame}
use Rattle.spv_frame.specs.Stacks.{Stacked, top}
use Rattle.spv_statuses.specs.Group.{first_waiting}
use Rattle.spv_statuses.specs.Invocations.{once_opened}
use Rattle.spv_statuses.specs.declared.invocations.Status.{Status}
use Rattle.spv_statuses.specs.declared.invocations.Status.TheVariants.{Ready, Arrived, Passed, Finished}
use Rattle.spv_valid.specs.Acceptance.{Accepted, IsAccepted}
use Rattle.spv_state.specs.Program.{Program, words_of}
use Rattle.spv_state.specs.Sound.{IsBarrier, IsSound, IsSoundStack, StandsAs}
use Rattle.spv_state.specs.State.{State, open_barrier, set_status, top_of}
use Rattle.spv_state.proofs.Exports.{change_none, set_is_change, Stood, stand_inst, stood, top_at}
use Rattle.spv_machine.specs.Step.{arrive, arrived, finish, finished, opened_at, opens}
use Rattle.spv_machine.proofs.SoundStacks.{AreSoundStacks, one_changed}
use Rattle.spv_base.proofs.Exports.{element_at}

-- ---- another status

pub status_changed : (a : Accepted) (t u : Status) (k : Stacked) (l : Levels) → ((u ≡ Finished) ↔ (t ≡ Finished)) → ((f : Frame) → top k.frames ≡ Some f → StandsAs a t f → StandsAs a u f) → IsSoundStack a t k l → IsSoundStack a u k l
status_changed a t u k l same waits s = record {
  room = s.room;
  levels = s.levels;
  finished = (λ e. s.finished.0 (same.0 e), λ e. same.1 (s.finished.1 e));
  frames = s.frames;
  variables = s.variables;
  first = s.first;
  calls = s.calls;
  waits = λ f at. waits f at (s.waits f at);
  rooted = s.rooted;
}

pub status_sound : (p : Program) (s : State) (i : ℕ) (u : Status) → IsSound p s
    → ((t : Status) (k : Stacked) (l : Levels) → slice_get s.statuses.list i ≡ Some t → slice_get s.stacks i ≡ Some k → slice_get s.memory.locals i ≡ Some l → IsSoundStack p.accepted t k l → IsSoundStack p.accepted u k l)
    → IsSound p (set_status i u s)
status_sound p s i u sound changed = record {
  plans = sound.plans;
  types = sound.types;
  targets = sound.targets;
  memory = sound.memory;
  words = sound.words;
  stacks = sound.stacks ∙ sym (length-set s.statuses.list i u);
  levels = sound.levels ∙ sym (length-set s.statuses.list i u);
  privates = sound.privates ∙ sym (length-set s.statuses.list i u);
  shared = sound.shared;
  own = sound.own;
  each = subst (λ (ls : List Levels). AreSoundStacks p.accepted (slice_set s.statuses.list i u) s.stacks ls) (change_none i s.memory.locals)
      (subst (λ (ks : List Stacked). AreSoundStacks p.accepted (slice_set s.statuses.list i u) ks (change i (λ l. l) s.memory.locals)) (change_none i s.stacks)
      (subst (λ (ts : List Status). AreSoundStacks p.accepted ts (change i (λ k. k) s.stacks) (change i (λ l. l) s.memory.locals)) (sym (set_is_change i u s.statuses.list))
      (one_changed p.accepted i (λ _. u) (λ k. k) (λ l. l) s.statuses.list s.stacks s.memory.locals sound.each changed)));
}

-- ---- an arrival

pub arrived_sound : (p : Program) (s : State) (i word : ℕ) (own : Frame) → IsSound p s → slice_get s.statuses.list i ≡ Some Ready → top_of s i ≡ Some own → own.pc ≡ word → IsBarrier p.accepted word → IsSound p (arrived i word s)
arrived_sound p s i word own sound ready is here barrier =
    status_sound p s i (Arrived word) sound (λ t k l status stack level kept.
    let same : t ≡ Ready = cc in
    status_changed p.accepted t (Arrived word) k l (λ e. absurd (cc), λ e. absurd (cc)) (λ f at stands.
    let one : own ≡ f = let top_is = top_at s i k f stack at in cc in
    (sym (ap (λ (x : Frame). x.pc) one) ∙ here, barrier)) kept)

-- ---- a barrier that opens

mapped : {A B : Type 0} (f : A → B) (xs : List A) (i : ℕ) (y : B) → slice_get (map f xs) i ≡ Some y → (x : A) × (slice_get xs i ≡ Some x) × (f x ≡ y)
mapped f [] i y h = absurd (cc)
mapped f (x ∷ xs) zero y h = (x, refl, cc)
mapped f (x ∷ xs) (suc i) y h = mapped f xs i y h

-- those that waited at it are Passed, and stand at a barrier
passes_on : (a : Accepted) (t : Status) (k : Stacked) (l : Levels) → IsSoundStack a t k l → IsSoundStack a (once_opened t) k l
passes_on a Ready k l s = s
passes_on a (Arrived at) k l s = status_changed a (Arrived at) Passed k l (λ e. absurd (cc), λ e. absurd (cc)) (λ f top_f stands. subst (IsBarrier a) (sym stands.0) stands.1) s
passes_on a Passed k l s = s
passes_on a Finished k l s = s

pub opened_sound : (p : Program) (s : State) → IsSound p s → IsSound p (open_barrier s)
opened_sound p s sound = record {
  plans = sound.plans;
  types = sound.types;
  targets = sound.targets;
  memory = sound.memory;
  words = sound.words;
  stacks = sound.stacks ∙ sym (length-map s.statuses.list once_opened);
  levels = sound.levels ∙ sym (length-map s.statuses.list once_opened);
  privates = sound.privates ∙ sym (length-map s.statuses.list once_opened);
  shared = sound.shared;
  own = sound.own;
  each = λ i t k l status stack level.
      let old = mapped once_opened s.statuses.list i t status in
      subst (λ (u : Status). IsSoundStack p.accepted u k l) old.2 (passes_on p.accepted old.0 k l (sound.each i old.0 k l old.1 stack level));
}

-- where it does or doesn't
may_open : (p : Program) (s : State) → IsSound p s → (b : Bool) → IsSound p (if b then open_barrier s else s)
may_open p s sound true = opened_sound p s sound
may_open p s sound false = sound

pub arrive_sound : (p : Program) (s : State) (i word : ℕ) (own : Frame) → IsSound p s → slice_get s.statuses.list i ≡ Some Ready → top_of s i ≡ Some own → own.pc ≡ word → IsBarrier p.accepted word → IsSound p (arrive p i word s)
arrive_sound p s i word own sound ready is here barrier = may_open p (arrived i word s) (arrived_sound p s i word own sound ready is here barrier) (opens p word (arrived i word s))

-- a return of the entry point may open one too
pub finish_sound : (p : Program) (s : State) (i : ℕ) → IsSound p (finished i s) → IsSound p (finish p i s)
finish_sound p s i sound = by_count p.setup.finished_count
  where
    by_first : (o : Option ℕ) → IsSound p (opened_at p o (finished i s))
    by_first None = sound
    by_first (Some word) = may_open p (finished i s) sound (opens p word (finished i s))

    by_count : (b : Bool) → IsSound p (if b then opened_at p (first_waiting (finished i s).statuses.list) (finished i s) else finished i s)
    by_count true = by_first (first_waiting (finished i s).statuses.list)
    by_count false = sound

-- ---- the words of a module

words_ascend : (from : ℕ) (is : List Inst) (j k : ℕ) (x y : Inst) → Ascend from is → slice_get is j ≡ Some x → slice_get is k ≡ Some y → j ≤ k → (from ≤ y.word) × (x.word ≤ y.word)
words_ascend from [] j k x y ascend g h le = absurd (cc)
words_ascend from (i ∷ is) zero zero x y ascend g h le =
    let one : i ≡ x = cc in
    let other : i ≡ y = cc in
    let low = ascend.0 in
    let a : i.word ≡ x.word = ap (λ (z : Inst). z.word) one in
    let b : i.word ≡ y.word = ap (λ (z : Inst). z.word) other in
    (omega arith, omega arith)
words_ascend from (i ∷ is) zero (suc k) x y ascend g h le =
    let one : i ≡ x = cc in
    let low = ascend.0 in
    let a : i.word ≡ x.word = ap (λ (z : Inst). z.word) one in
    let rest = (words_ascend (suc i.word) is k k y y ascend.1 h h (omega arith)).0 in
    (omega arith, omega arith)
words_ascend from (i ∷ is) (suc j) zero x y ascend g h le = absurd (omega arith)
words_ascend from (i ∷ is) (suc j) (suc k) x y ascend g h le =
    let rest = words_ascend (suc i.word) is j k x y ascend.1 g h (omega arith) in
    let low = ascend.0 in
    let a = rest.0 in
    let b = rest.1 in
    (omega arith, omega arith)

last_word : (is : List Inst) (k : ℕ) (d : Inst) → Ascend 0 is → slice_get is k ≡ Some d → d.word < option_map_or (λ (i : Inst). suc i.word) (slice_get is (length is - 1)) 0
last_word is k d ascend h = by_last (slice_get is (length is - 1)) refl
  where
    within : k < length is
    within = slice_get_within is k d h

    by_last : (o : Option Inst) → slice_get is (length is - 1) ≡ o → d.word < option_map_or (λ (i : Inst). suc i.word) o 0
    by_last None e =
        let there = element_at is (length is - 1) (let w = within in omega arith) in
        let some = there.1 in
        absurd (cc)
    by_last (Some last) e =
        let order = words_ascend 0 is k (length is - 1) d last ascend h e (let w = within in omega arith) in
        let le = order.1 in
        omega arith

-- an instruction of a module stands at one of its words
pub word_within : (a : Accepted) (word : ℕ) (d : Inst) → ∥ IsAccepted a ∥₁ → at a.insts word ≡ Some d → word < words_of a
word_within a word d accepted here =
    ∥∥₁_elim accepted (hlevel props) (λ (is : IsAccepted a).
    let there : Stood a.insts word d = stood a.insts word d here in
    let inst : slice_get a.insts there.one.number ≡ Some d = stand_inst a.insts there.one.number there.stand there.one.is ∙ ap (λ (x : Inst). Some x) there.inst in
    subst (λ (n : ℕ). n < words_of a) there.here (last_word a.insts there.one.number d is.decoded.ascend inst))
