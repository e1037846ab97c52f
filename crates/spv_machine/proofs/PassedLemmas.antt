-- Debug events that the top frame passes, one after the other.
use Rattle.std.proofs.Common.{◌≡◌, ◌∙◌, ℕ, suc, nat_eq, ◌+◌, ◌-◌, ◌<◌, ◌≤◌, Bool, true, List, [], ◌∷◌, ◌++◌, append-nil, append_assoc, map, Option, Some, None, IsSome, length, refl, sym, ap, subst, arith}
use Rattle.std.proofs.lemmas.Bool.Decides.{nat_tests}
use Rattle.std.proofs.lemmas.List.{length-map, nil_from_length}
use Rattle.std.specs.Option.{IsSomeAnd, option_map_or}
use Rattle.spv_base.specs.declared.values.PassedEvent.{PassedEvent}
use Rattle.spv_valid.specs.Acceptance.{Accepted}
use Rattle.spv_frame.specs.Frames.{Held as Frame}
use Rattle.spv_frame.specs.Stacks.{Stacked}
use Rattle.spv_journal.specs.Held.{Held as Recorded, Records}
use Rattle.spv_state.specs.Events.{IsReadable, IsReadableAt, captured, captures_before, due, due_at, pass, passed}
use Rattle.spv_state.specs.Sound.{IsSoundFrame}
use Rattle.spv_state.specs.State.{State, append_event, depth_of, on_frame, on_frames, top_of, with_pc}
use Rattle.spv_state.proofs.Exports.{passed_is, readable, change_same, stacks_stay}
use Rattle.spv_machine.specs.Weights.{events_before}
use Rattle.spv_machine.proofs.Phis.{on_frame_still, on_frame_twice}
use Rattle.spv_machine.proofs.ReachedLemmas.{frame_changed}
use Rattle.spv_machine.proofs.Recording.{records_more, records_on, records_still}

-- ---- the top frame

-- two changes of it that are the same
pub on_frame_same : (i : ℕ) (g h : Frame → Frame) (s : State) → ((f : Frame) → g f ≡ h f) → on_frame i g s ≡ on_frame i h s
on_frame_same i g h s same =
    ap (λ (ks : List Stacked). record s { stacks = ks })
    (change_same i (on_frames g) (on_frames h) s.stacks (λ k at. ap (λ (fs : List Frame). record k { frames = fs }) (change_same (length k.frames - 1) g h k.frames (λ f here. same f))))

some_top : (o : Option Frame) → IsSome o → (f : Frame) × (o ≡ Some f)
some_top None h = absurd (cc)
some_top (Some f) h = (f, refl)

-- it stays one
pub frame_stays : (i : ℕ) (g : Frame → Frame) (s : State) → IsSome (top_of s i) → IsSome (top_of (on_frame i g s) i)
frame_stays i g s some =
    let there = some_top (top_of s i) some in
    subst (λ (o : Option Frame). IsSome o) (sym (frame_changed s i g there.0 there.1)) refl

-- ---- events that are appended in turn

abbrev pub with_events : List PassedEvent → Frame → Frame
with_events es f = record f { events = f.events ++ es }

pub record Appending (i : ℕ) (all rest : List PassedEvent) (old now : Recorded) : Type 0 where
  pub left : on_frame i (with_events rest) now.state ≡ on_frame i (with_events all) old.state
  pub count : ℕ
  pub counted : count + length rest ≡ length all
  pub records : Records count old now
  pub inside : i < length now.state.stacks
  pub frames : IsSome (top_of now.state i)

pub appends_begin : (i : ℕ) (all rest : List PassedEvent) (now : Recorded) → rest ≡ all → i < length now.state.stacks → IsSome (top_of now.state i) → Appending i all rest now now
appends_begin i all rest now same inside frames = record {
  left = ap (λ (es : List PassedEvent). on_frame i (with_events es) now.state) same;
  count = 0;
  counted = let e : length rest ≡ length all = ap length same in omega (arith, e);
  records = records_still now;
  inside = inside;
  frames = frames;
}

pub appends_one : (i : ℕ) (all rest more : List PassedEvent) (e : PassedEvent) (old now new : Recorded) → rest ≡ e ∷ more → Appending i all rest old now → new.state ≡ on_frame i (append_event e) now.state → Records 1 now new
    → Appending i all more old new
appends_one i all rest more e old now new first going made one = record {
  left =
      ap (on_frame i (with_events more)) made ∙ on_frame_twice i (with_events more) (append_event e) now.state
      ∙ on_frame_same i (λ f. with_events more (append_event e f)) (with_events (e ∷ more)) now.state (λ f. ap (λ (xs : List PassedEvent). record f { events = xs }) (append_assoc f.events (e ∷ []) more))
      ∙ ap (λ (es : List PassedEvent). on_frame i (with_events es) now.state) (sym first) ∙ going.left;
  count = going.count + 1;
  counted = let all_of = going.counted in let size : length rest ≡ suc (length more) = ap length first in omega (arith, all_of, size);
  records = records_on going.count 1 old now new going.records one;
  inside = subst (λ (s : State). i < length s.stacks) (sym made) (stacks_stay i (append_event e) now.state going.inside);
  frames = subst (λ (s : State). IsSome (top_of s i)) (sym made) (frame_stays i (append_event e) now.state going.frames);
}

none_left : (rest : List PassedEvent) → length rest ≡ 0 → rest ≡ []
none_left [] h = refl
none_left (e ∷ es) h = absurd (omega (arith, h))

pub appends_none : (i : ℕ) (all rest : List PassedEvent) (old now : Recorded) → length rest ≡ 0 → Appending i all rest old now → now.state ≡ on_frame i (with_events all) old.state
appends_none i all rest old now none going =
    sym (on_frame_still i now.state) ∙ on_frame_same i (λ f. f) (with_events []) now.state (λ f. ap (λ (xs : List PassedEvent). record f { events = xs }) (sym (append-nil f.events)))
    ∙ ap (λ (es : List PassedEvent). on_frame i (with_events es) now.state) (sym (none_left rest none)) ∙ going.left

-- there is one more
pub appends_some : (i : ℕ) (all rest more : List PassedEvent) (e : PassedEvent) (old now : Recorded) → rest ≡ e ∷ more → (g : Appending i all rest old now) → g.count + 1 ≤ length all
appends_some i all rest more e old now first g = let c = g.counted in let size : length rest ≡ suc (length more) = ap length first in omega (arith, c, size)

-- not more than there are
pub appends_records : (i : ℕ) (all rest : List PassedEvent) (old now : Recorded) → Appending i all rest old now → Records (length all) old now
appends_records i all rest old now going = records_more going.count (length all) old now (let c = going.counted in omega arith) going.records

-- ---- how many there are

due_count : (a : Accepted) (s : State) (i : ℕ) (o : Option Frame) → length (option_map_or (due a (depth_of s i)) o []) ≡ option_map_or (λ (f : Frame). length (captures_before a f.pc)) o 0
due_count a s i None = refl
due_count a s i (Some f) = length-map (captures_before a f.pc) (captured a f (depth_of s i))

-- as many as the executable has before it, and the pc stays
pub due_counted : (a : Accepted) (s : State) (i : ℕ) → IsSome (top_of s i) → length (due_at a s i) ≡ events_before a (pass a i s) i
due_counted a s i some =
    let there = some_top (top_of s i) some in
    let now : top_of (pass a i s) i ≡ Some (passed a (depth_of s i) there.0) = frame_changed s i (passed a (depth_of s i)) there.0 there.1 in
    due_count a s i (top_of s i) ∙ ap (λ (o : Option Frame). option_map_or (λ (f : Frame). length (captures_before a f.pc)) o 0) there.1
    ∙ sym (ap (λ (o : Option Frame). option_map_or (λ (f : Frame). length (captures_before a f.pc)) o 0) now)

-- ---- where there are none

pub none_there : {A : Type 0} (b : Bool) (xs : List A) → b ≡ nat_eq (length xs) 0 → b ≡ true → xs ≡ []
none_there b xs e h = nil_from_length xs (grind (arith, nat_tests))

pub none_due : (a : Accepted) (s : State) (i pc : ℕ) → IsSome (top_of s i) → captures_before a pc ≡ [] → due_at a (on_frame i (with_pc pc) s) i ≡ []
none_due a s i pc some none =
    let there = some_top (top_of s i) some in
    let come = on_frame i (with_pc pc) s in
    let now : top_of come i ≡ Some (with_pc pc there.0) = frame_changed s i (with_pc pc) there.0 there.1 in
    ap (λ (o : Option Frame). option_map_or (due a (depth_of come i)) o []) now ∙ ap (map (captured a (with_pc pc there.0) (depth_of come i))) none

pub none_passed : (a : Accepted) (s : State) (i : ℕ) → due_at a s i ≡ [] → s ≡ pass a i s
none_passed a s i none =
    sym (on_frame_still i s) ∙ on_frame_same i (λ f. f) (with_events []) s (λ f. ap (λ (xs : List PassedEvent). record f { events = xs }) (sym (append-nil f.events)))
    ∙ passed_is a s i [] (sym none)

-- ---- a frame that came to an instruction can be read

sound_top : (a : Accepted) (o : Option Frame) → IsSomeAnd o (IsSoundFrame a) → (f : Frame) × (o ≡ Some f) × IsSoundFrame a f
sound_top a None h = absurd h
sound_top a (Some f) h = (f, refl, h)

pub sound_some : (a : Accepted) (o : Option Frame) → IsSomeAnd o (IsSoundFrame a) → IsSome o
sound_some a None h = absurd h
sound_some a (Some f) h = refl

pub come_readable : (a : Accepted) (s : State) (i pc : ℕ) → IsSomeAnd (top_of s i) (IsSoundFrame a) → IsReadableAt a (on_frame i (with_pc pc) s) i
come_readable a s i pc sound f here =
    let there = sound_top a (top_of s i) sound in
    let now : top_of (on_frame i (with_pc pc) s) i ≡ Some (with_pc pc there.0) = frame_changed s i (with_pc pc) there.0 there.1 in
    let same : with_pc pc there.0 ≡ f = cc in
    let own : IsReadable a there.0 = readable a there.0 there.2 in
    subst (IsReadable a) same (record { function = own.function; shaped = record { values = own.shaped.values; pointers = own.shaped.pointers } })
