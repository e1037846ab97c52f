-- What changes that are undone leave of a state.
use Rattle.std.proofs.Common.{◌≡◌, ◌≢◌, ◌∙◌, ℕ, zero, suc, ◌+◌, ◌-◌, ◌<◌, arith, Bool, true, false, List, [], ◌∷◌, ◌++◌, length, length-append, length-take-le, take, append_assoc, append-nil, Option, Some, None, option_map, slice_get, refl, ap, sym, subst}
use Rattle.std.specs.Option.{IsSomeAnd, option_map_or}
use Rattle.std.proofs.lemmas.List.{take_more}
use Rattle.std.proofs.lemmas.Option.{get_or_from_slice_get, slice_get_within}
use Rattle.std.specs.Prelude.{IfSome, IsSome, ⊤}
use Rattle.spv_base.specs.Entries.{change}
use Rattle.spv_base.specs.Variables.{Roots}
use Rattle.spv_base.specs.declared.values.PassedEvent.{PassedEvent}
use Rattle.spv_base.specs.declared.values.Pointer.{Pointer}
use Rattle.spv_base.specs.declared.values.Value.{Value}
use Rattle.spv_base.proofs.Exports.{change_here, length_change}
use Rattle.spv_frame.specs.Frames.{Held as Frame}
use Rattle.spv_frame.specs.Numbers.{with_pointer, with_value}
use Rattle.spv_frame.specs.Stacks.{Stacked, on_top}
use Rattle.spv_state.specs.State.{State, drop_event, frames_of, on_frame, on_frames, pop_frame, push_frame, put_store, with_pc, with_top, without_last, without_top}
use Rattle.spv_state.proofs.Exports.{change_other}
use Rattle.spv_undo.specs.Undo.{CanUndo, undo, undo_all}
use Rattle.spv_undo.specs.Entries.{variable_item}
use Rattle.spv_undo.specs.OldValues.{popped}
use Rattle.spv_undo.specs.declared.entries.Entry.{Entry}
use Rattle.spv_undo.specs.declared.entries.Entry.TheVariants.{Leaf, Part, NoValue, CellRegister, RowRegister, PointerRegister, FramePushed, FramePopped, PcMoved, EventAppended, StatusChanged, BarrierOpened}
use Rattle.spv_undo.proofs.Exports.{front_undoes, undo_both}
use Rattle.spv_journal.specs.Events.{Event, Kept, newest, opened}
use Rattle.spv_journal.specs.Held.{Held}
use Rattle.spv_journal.specs.Marks.{Marked, is_store, items_of, moved}
use Rattle.spv_journal.specs.Rings.{events}
use Rattle.spv_journal.specs.Undo.{CanUndoNewest, CanUnwind, before}
use Rattle.spv_journal.specs.declared.marks.Change.{Change}
use Rattle.spv_journal.specs.declared.marks.Change.TheVariants.{Blank, Nothing, Register, Status, Variable}
use Rattle.spv_journal.specs.Touches.{HasPassed, IsTouch, IsTouchOf, but_last, count_before}
use Rattle.spv_journal.specs.declared.touches.FrameChange.{FrameChange}
use Rattle.spv_journal.specs.declared.touches.FrameChange.TheVariants.{Same, Pushed, Popped}
use Rattle.spv_journal.specs.declared.touches.Touch.{Touch}
use Rattle.spv_journal.proofs.RecordLemmas.{held_of}
use Rattle.spv_journal.proofs.UndoLemmas.{newest_undoes}
use Rattle.spv_journal.proofs.ListLemmas.{but_last_more, front_at, kept_at, other_at, taken_at, turned_at}

-- ---- the frames of one invocation, before and behind

record Were (c : FrameChange) (n : ℕ) (fs gs : List Frame) : Type 0 where
  count : length fs ≡ count_before c (length gs)
  below : (d : ℕ) (g : Frame) → d + 1 < length gs → slice_get gs d ≡ Some g → IsSomeAnd (slice_get fs d) (HasPassed g.plan.function g.events)
  top : (g : Frame) → c ≢ Pushed → slice_get gs (length gs - 1) ≡ Some g → IsSomeAnd (slice_get fs (length gs - 1)) (HasPassed g.plan.function (but_last n g.events))

-- a change of the top frame that keeps its function and its debug events
record Keeps (h : Frame → Frame) : Type 0 where
  function : (f : Frame) → (h f).plan.function ≡ f.plan.function
  events : (f : Frame) → (h f).events ≡ f.events

passed_still : (h : Frame → Frame) (function : ℕ) (es : List PassedEvent) (f : Frame) → Keeps h → HasPassed function es f → HasPassed function es (h f)
passed_still h function es f keeps is = record { function = keeps.function f ∙ is.function; events = keeps.events f ∙ is.events }

still_were : (c : FrameChange) (n : ℕ) (h : Frame → Frame) (fs gs : List Frame) → Keeps h → Were c n fs gs → Were c n (on_top h fs) gs
still_were c n h fs gs keeps w = record {
  count = length_change (length fs - 1) h fs ∙ w.count;
  below = λ d g l at. kept_at (HasPassed g.plan.function g.events) h (length fs - 1) d fs (λ f is. passed_still h g.plan.function g.events f keeps is) (w.below d g l at);
  top = λ g came at.
      kept_at (HasPassed g.plan.function (but_last n g.events)) h (length fs - 1) (length gs - 1) fs (λ f is. passed_still h g.plan.function (but_last n g.events) f keeps is) (w.top g came at);
}

-- the top frame has passed a debug event less
one_less : (n function : ℕ) (es : List PassedEvent) (f : Frame) → HasPassed function (but_last n es) f → HasPassed function (but_last (n + 1) es) (drop_event f)
one_less n function es f is = record { function = is.function; events = ap without_last is.events ∙ but_last_more n es }

dropped_were : (n : ℕ) (fs gs : List Frame) → Were Same n fs gs → Were Same (n + 1) (on_top drop_event fs) gs
dropped_were n fs gs w =
    let many : length fs ≡ length gs = w.count in
    record {
      count = length_change (length fs - 1) drop_event fs ∙ w.count;
      below = λ d g l at. other_at (HasPassed g.plan.function g.events) drop_event (length fs - 1) d fs (omega (arith, l, many)) (w.below d g l at);
      top = λ g came at.
          subst (λ (m : ℕ). IsSomeAnd (slice_get (change (m - 1) drop_event fs) (length gs - 1)) (HasPassed g.plan.function (but_last (n + 1) g.events))) (sym many)
          (turned_at (HasPassed g.plan.function (but_last n g.events)) (HasPassed g.plan.function (but_last (n + 1) g.events)) drop_event (length gs - 1) fs
          (λ f is. one_less n g.plan.function g.events f is) (w.top g came at));
    }

-- the top frame wasn't there
absent_were : (n : ℕ) (fs gs : List Frame) → Were Same n fs gs → Were Pushed n (without_last fs) gs
absent_were n fs gs w =
    let many : length fs ≡ length gs = w.count in
    record {
      count = let less = length-take-le (length fs - 1) fs (omega arith) in omega (arith, less, many);
      below = λ d g l at. taken_at (HasPassed g.plan.function g.events) (length fs - 1) d fs (omega (arith, l, many)) (w.below d g l at);
      top = λ g came at. absurd (came refl);
    }

-- there was another frame above
above_were : (n : ℕ) (f : Frame) (fs gs : List Frame) → Were Same n fs gs → Were Popped n (fs ++ f ∷ []) gs
above_were n f fs gs w =
    let many : length fs ≡ length gs = w.count in
    record {
      count = let more = length-append fs (f ∷ []) in omega (arith, more, many);
      below = λ d g l at. front_at (HasPassed g.plan.function g.events) d fs (f ∷ []) (w.below d g l at);
      top = λ g came at. front_at (HasPassed g.plan.function (but_last n g.events)) (length gs - 1) fs (f ∷ []) (w.top g (λ e. cc) at);
    }

-- ---- the frames of a state whose stacks are changed

abbrev frames_in : Option Stacked → List Frame
frames_in o = option_map_or (λ (k : Stacked). k.frames) o []

others_stay : (i k : ℕ) (h : Stacked → Stacked) (ks : List Stacked) → k ≢ i → frames_in (slice_get (change i h ks) k) ≡ frames_in (slice_get ks k)
others_stay i k h ks apart = ap frames_in (change_other i k h ks (λ e. apart (sym e)))

changed_here : (i : ℕ) (g : List Frame → List Frame) (h : Stacked → Stacked) (ks : List Stacked) → g [] ≡ [] → ((k : Stacked) → (h k).frames ≡ g k.frames) → frames_in (slice_get (change i h ks) i) ≡ g (frames_in (slice_get ks i))
changed_here i g h ks none is = ap frames_in (change_here i h ks) ∙ each (slice_get ks i)
  where
    each : (o : Option Stacked) → frames_in (option_map h o) ≡ g (frames_in o)
    each None = sym none
    each (Some k) = is k

entered_here : (i : ℕ) (f : Frame) (ks : List Stacked) → i < length ks → frames_in (slice_get (change i (with_top f) ks) i) ≡ frames_in (slice_get ks i) ++ f ∷ []
entered_here i f ks inside = ap frames_in (change_here i (with_top f) ks) ∙ there i ks inside
  where
    there : (j : ℕ) (xs : List Stacked) → j < length xs → frames_in (option_map (with_top f) (slice_get xs j)) ≡ frames_in (slice_get xs j) ++ f ∷ []
    there j [] l = absurd (omega (arith, l))
    there zero (x ∷ xs) l = refl
    there (suc j) (x ∷ xs) l = there j xs (omega (arith, l))

-- ---- one change more that is undone

were : (t : Touch) (i : ℕ) (s u : State) → IsTouch t i s u → Were t.frames t.events (frames_of s i) (frames_of u i)
were t i s u x = record { count = x.count; below = x.below; top = x.top }

-- where the stacks of an invocation are changed
on_stack : (t r : Touch) (i : ℕ) (h : Stacked → Stacked) (s u v : State) → IsTouch t i s u → v.stacks ≡ change i h s.stacks → (r.stores ≡ false → r.frames ≡ Same → v.memory ≡ u.memory)
    → Were r.frames r.events (frames_of v i) (frames_of u i) → IsTouch r i v u
on_stack t r i h s u v x stacks memory w = record {
  memory = memory;
  stacks = ap length stacks ∙ length_change i h s.stacks ∙ x.stacks;
  others = λ k apart. ap (λ (ks : List Stacked). frames_in (slice_get ks k)) stacks ∙ others_stay i k h s.stacks apart ∙ x.others k apart;
  count = w.count;
  below = w.below;
  top = w.top;
}

frame_touch : (t : Touch) (i : ℕ) (h : Frame → Frame) (s u : State) → Keeps h → IsTouch t i s u → IsTouch t i (on_frame i h s) u
frame_touch t i h s u keeps x =
    on_stack t t i (on_frames h) s u (on_frame i h s) x refl x.memory
    (subst (λ (fs : List Frame). Were t.frames t.events fs (frames_of u i)) (sym (changed_here i (on_top h) (on_frames h) s.stacks refl (λ k. refl)))
    (still_were t.frames t.events h (frames_of s i) (frames_of u i) keeps (were t i s u x)))

-- ---- by entries

store_touch : (t : Touch) (i : ℕ) (p : Pointer) (v : Value) (s u : State) → IsTouch t i s u → IsTouch (record t { stores = true }) i (put_store i (Some (p, v)) s) u
store_touch t i p v s u x = record { memory = λ stored e. absurd cc; stacks = x.stacks; others = x.others; count = x.count; below = x.below; top = x.top }

event_touch : (t : Touch) (i : ℕ) (s u : State) → t.frames ≡ Same → IsTouch t i s u → IsTouch (record t { events = t.events + 1 }) i (on_frame i drop_event s) u
event_touch t i s u same x =
    let w = subst (λ (c : FrameChange). Were c t.events (frames_of s i) (frames_of u i)) same (were t i s u x) in
    on_stack t (record t { events = t.events + 1 }) i (on_frames drop_event) s u (on_frame i drop_event s) x refl x.memory
    (subst (λ (fs : List Frame). Were t.frames (t.events + 1) fs (frames_of u i)) (sym (changed_here i (on_top drop_event) (on_frames drop_event) s.stacks refl (λ k. refl)))
    (subst (λ (c : FrameChange). Were c (t.events + 1) (on_top drop_event (frames_of s i)) (frames_of u i)) (sym same) (dropped_were t.events (frames_of s i) (frames_of u i) w)))

pushed_touch : (t : Touch) (i : ℕ) (s u : State) → t.frames ≡ Same → IsTouch t i s u → IsTouch (record t { frames = Pushed }) i (pop_frame i s) u
pushed_touch t i s u same x =
    let w = subst (λ (c : FrameChange). Were c t.events (frames_of s i) (frames_of u i)) same (were t i s u x) in
    on_stack t (record t { frames = Pushed }) i without_top s u (pop_frame i s) x refl (λ stored e. absurd cc)
    (subst (λ (fs : List Frame). Were Pushed t.events fs (frames_of u i)) (sym (changed_here i without_last without_top s.stacks refl (λ k. refl)))
    (absent_were t.events (frames_of s i) (frames_of u i) w))

popped_touch : (t : Touch) (i : ℕ) (f : Frame) (es : Roots) (s u : State) → t.frames ≡ Same → i < length s.stacks → IsTouch t i s u → IsTouch (record t { frames = Popped }) i (push_frame i f es s) u
popped_touch t i f es s u same inside x =
    let w = subst (λ (c : FrameChange). Were c t.events (frames_of s i) (frames_of u i)) same (were t i s u x) in
    on_stack t (record t { frames = Popped }) i (with_top f) s u (push_frame i f es s) x refl (λ stored e. absurd cc)
    (subst (λ (fs : List Frame). Were Popped t.events fs (frames_of u i)) (sym (entered_here i f s.stacks inside))
    (above_were t.events f (frames_of s i) (frames_of u i) w))

-- ---- a change more, behind those that a touch tells

-- what an older change makes of a touch
abbrev Steps : Touch → Entry → Touch → Type 0
Steps t e r = (i : ℕ) (s u : State) → CanUndo i e s → IsTouch t i s u → IsTouch r i (undo i e s) u

stepped : (t : Touch) (e : Entry) (r : Touch) → Steps t e r → (es : List Entry) → IsTouchOf es t → IsTouchOf (es ++ e ∷ []) r
stepped t e r step es is = λ i u can.
    let both = front_undoes i es (e ∷ []) u can in
    subst (λ (s : State). IsTouch r i s u) (undo_both i es (e ∷ []) u) (step i (undo_all i es u) u both.1.0 (is i u both.0))

-- a change of a register, a pc, a status or a barrier
abbrev pub IsStill : Entry → Type 0
IsStill (NoValue n) = ⊤
IsStill (CellRegister n v) = ⊤
IsStill (RowRegister b) = ⊤
IsStill (PointerRegister n o) = ⊤
IsStill (PcMoved pc) = ⊤
IsStill (StatusChanged status) = ⊤
IsStill (BarrierOpened word) = ⊤
IsStill _ = ⊥

still_steps : (t : Touch) (e : Entry) → IsStill e → Steps t e t
still_steps t (NoValue n) still = λ i s u can x. frame_touch t i (with_value n None) s u (record { function = λ f. refl; events = λ f. refl }) x
still_steps t (CellRegister n v) still = λ i s u can x. frame_touch t i (with_value n (Some v)) s u (record { function = λ f. refl; events = λ f. refl }) x
still_steps t (RowRegister b) still = λ i s u can x. frame_touch t i (with_value b.value.number (Some b.value.row)) s u (record { function = λ f. refl; events = λ f. refl }) x
still_steps t (PointerRegister n o) still = λ i s u can x. frame_touch t i (with_pointer n (option_map (λ b. b.value) o)) s u (record { function = λ f. refl; events = λ f. refl }) x
still_steps t (PcMoved pc) still = λ i s u can x. frame_touch t i (with_pc pc) s u (record { function = λ f. refl; events = λ f. refl }) x
still_steps t (StatusChanged status) still = λ i s u can x. record { memory = x.memory; stacks = x.stacks; others = x.others; count = x.count; below = x.below; top = x.top }
still_steps t (BarrierOpened word) still = λ i s u can x. record { memory = x.memory; stacks = x.stacks; others = x.others; count = x.count; below = x.below; top = x.top }
still_steps t (Leaf root leaf path v) still = absurd still
still_steps t (Part b) still = absurd still
still_steps t FramePushed still = absurd still
still_steps t (FramePopped b) still = absurd still
still_steps t EventAppended still = absurd still

-- a change of a variable
abbrev pub IsStore : Entry → Type 0
IsStore (Leaf root leaf path v) = ⊤
IsStore (Part b) = ⊤
IsStore _ = ⊥

store_steps : (t : Touch) (e : Entry) → IsStore e → Steps t e (record t { stores = true })
store_steps t (Leaf root leaf path v) store = λ i s u can x. store_touch t i (record { root = root; path = path.value }) v s u x
store_steps t (Part b) store = λ i s u can x. store_touch t i b.value.place b.value.row s u x
store_steps t (NoValue n) store = absurd store
store_steps t (CellRegister n v) store = absurd store
store_steps t (RowRegister b) store = absurd store
store_steps t (PointerRegister n o) store = absurd store
store_steps t FramePushed store = absurd store
store_steps t (FramePopped b) store = absurd store
store_steps t (PcMoved pc) store = absurd store
store_steps t EventAppended store = absurd store
store_steps t (StatusChanged status) store = absurd store
store_steps t (BarrierOpened word) store = absurd store

event_steps : (t : Touch) → t.frames ≡ Same → Steps t EventAppended (record t { events = t.events + 1 })
event_steps t same = λ i s u can x. event_touch t i s u same x

pushed_steps : (t : Touch) → t.frames ≡ Same → Steps t FramePushed (record t { frames = Pushed })
pushed_steps t same = λ i s u can x. pushed_touch t i s u same x

popped_steps : (t : Touch) (e : Entry) → IsSome (popped e) → t.frames ≡ Same → Steps t e (record t { frames = Popped })
popped_steps t (FramePopped b) some same = λ i s u can x. popped_touch t i b.value.frame b.value.locals s u same can.0.stacks x
popped_steps t (Leaf root leaf path v) some same = absurd cc
popped_steps t (Part b) some same = absurd cc
popped_steps t (NoValue n) some same = absurd cc
popped_steps t (CellRegister n v) some same = absurd cc
popped_steps t (RowRegister b) some same = absurd cc
popped_steps t (PointerRegister n o) some same = absurd cc
popped_steps t FramePushed some same = absurd cc
popped_steps t (PcMoved pc) some same = absurd cc
popped_steps t EventAppended some same = absurd cc
popped_steps t (StatusChanged status) some same = absurd cc
popped_steps t (BarrierOpened word) some same = absurd cc

-- ---- by what an entry is

pub still_more : (t : Touch) (e : Entry) → IsStill e → (es : List Entry) → IsTouchOf es t → IsTouchOf (es ++ e ∷ []) t
still_more t e plain = stepped t e t (still_steps t e plain)

pub store_more : (t : Touch) (e x : Entry) → e ≡ x → IsStore x → (es : List Entry) → IsTouchOf es t → IsTouchOf (es ++ e ∷ []) (record t { stores = true })
store_more t e x is store = stepped t e (record t { stores = true }) (store_steps t e (subst IsStore (sym is) store))

pub event_more : (t : Touch) (n : ℕ) → t.frames ≡ Same → n ≡ t.events + 1 → (es : List Entry) → IsTouchOf es t → IsTouchOf (es ++ EventAppended ∷ []) (record t { events = n })
event_more t n same is =
    subst (λ (m : ℕ). (es : List Entry) → IsTouchOf es t → IsTouchOf (es ++ EventAppended ∷ []) (record t { events = m })) (sym is)
    (stepped t EventAppended (record t { events = t.events + 1 }) (event_steps t same))

pub pushed_more : (t : Touch) → t.frames ≡ Same → (es : List Entry) → IsTouchOf es t → IsTouchOf (es ++ FramePushed ∷ []) (record t { frames = Pushed })
pushed_more t same = stepped t FramePushed (record t { frames = Pushed }) (pushed_steps t same)

pub popped_more : (t : Touch) (e : Entry) → IsSome (popped e) → t.frames ≡ Same → (es : List Entry) → IsTouchOf es t → IsTouchOf (es ++ e ∷ []) (record t { frames = Popped })
popped_more t e some same = stepped t e (record t { frames = Popped }) (popped_steps t e some same)

-- ---- the changes of a mark

-- no changes
nothing_is : (stores : Bool) → IsTouchOf [] (record { stores = stores; events = 0; frames = Same })
nothing_is stores = λ i u can. record {
  memory = λ stored same. refl;
  stacks = refl;
  others = λ k apart. refl;
  count = refl;
  below = λ d g l at. subst (λ (o : Option Frame). IsSomeAnd o (HasPassed g.plan.function g.events)) (sym at) (record { function = refl; events = refl });
  top = λ g came at. subst (λ (o : Option Frame). IsSomeAnd o (HasPassed g.plan.function (but_last 0 g.events))) (sym at) (record { function = refl; events = sym (all_of g.events) });
}
  where
    whole : (es : List PassedEvent) → take (length es) es ≡ es
    whole [] = refl
    whole (e ∷ es) = ap (λ (ds : List PassedEvent). e ∷ ds) (whole es)

    all_of : (es : List PassedEvent) → but_last 0 es ≡ es
    all_of es = let none : length es - 0 ≡ length es = omega arith in ap (λ (n : ℕ). take n es) none ∙ whole es

abbrev still : Bool → Touch
still stores = record { stores = stores; events = 0; frames = Same }

moved_is : (m : Bool) (word : ℕ) → IsTouchOf (moved m word) (still false)
moved_is false word = nothing_is false
moved_is true word = stepped (still false) (PcMoved word) (still false) (still_steps (still false) (PcMoved word) tt) [] (nothing_is false)

-- an older one beside a move of the pc
moved_and : (m : Bool) (word : ℕ) (e : Entry) → IsStill e → IsTouchOf (moved m word ++ e ∷ []) (still false)
moved_and m word e plain = stepped (still false) e (still false) (still_steps (still false) e plain) (moved m word) (moved_is m word)

pub mark_is : (m : Bool) (word : ℕ) (change : Change) (tree : Value) → IsTouchOf (items_of m word change tree) (still (is_store change))
mark_is m word Nothing tree = moved_is m word
mark_is m word (Blank n) tree = moved_and m word (NoValue n) tt
mark_is m word (Register n) tree = moved_and m word (CellRegister n tree) tt
mark_is m word (Variable root) tree = stepped (still false) (variable_item root tree) (still true) (store_steps (still false) (variable_item root tree) tt) (moved m word) (moved_is m word)
mark_is false word (Status status) tree = stepped (still false) (StatusChanged status) (still false) (still_steps (still false) (StatusChanged status) tt) [] (nothing_is false)
mark_is true word (Status status) tree =
    stepped (still false) (PcMoved word) (still false) (still_steps (still false) (PcMoved word) tt) (StatusChanged status ∷ [])
    (stepped (still false) (StatusChanged status) (still false) (still_steps (still false) (StatusChanged status) tt) [] (nothing_is false))

-- ---- the newest event

pub newest_touch : (o : Option Touch) (vs : List Event) (s : State) → CanUndoNewest vs s → IfSome o (λ t. IsSomeAnd (newest vs) (λ v. IsTouchOf v.changes t))
    → IfSome o (λ t. IsSomeAnd (newest vs) (λ v. IsTouch t v.happening.inv (before v s) s))
newest_touch None vs s can is = is
newest_touch (Some t) [] s can is = is
newest_touch (Some t) (v ∷ vs) s can is = is v.happening.inv s can

-- of a state beside what its journal keeps
pub recorded_touch : (o : Option Touch) (j : Kept) (s : State) (h : Held) → held_of s j ≡ h → h.gathered ≡ None → CanUnwind (opened j.gathered j.ring) s → IfSome o (λ t. IsSomeAnd (newest j.ring) (λ v. IsTouchOf v.changes t))
    → IfSome o (λ t. IsSomeAnd (newest h.ring) (λ v. IsTouch t v.happening.inv (before v h.state) h.state))
recorded_touch o j s h is none can told =
    let closed : j.gathered ≡ None = ap (λ (x : Held). x.gathered) is ∙ none in
    let unwinds : CanUnwind j.ring s = subst (λ (x : Option Event). CanUnwind (opened x j.ring) s) closed can in
    subst (λ (x : Held). IfSome o (λ t. IsSomeAnd (newest x.ring) (λ v. IsTouch t v.happening.inv (before v x.state) x.state))) is
    (newest_touch o j.ring s (newest_undoes j.ring s unwinds) told)

-- by its mark and the changes beside it
ring_touch : (ks : List Marked) (es : List Entry) (k : Marked) (t : Touch) → slice_get ks 0 ≡ Some k → IsTouchOf (k.items ++ take k.beside es) t → IsSomeAnd (newest (events ks es)) (λ v. IsTouchOf v.changes t)
ring_touch [] es k t first is = absurd cc
ring_touch (j ∷ ks) es k t first is = let same : k ≡ j = cc in subst (λ (x : Marked). IsTouchOf (x.items ++ take x.beside es) t) same is

-- where none lie beside it
pub whole_touch : (ks : List Marked) (es : List Entry) (k : Marked) (t : Touch) → slice_get ks 0 ≡ Some k → k.beside ≡ 0 → IsTouchOf k.items t → IsSomeAnd (newest (events ks es)) (λ v. IsTouchOf v.changes t)
whole_touch ks es k t first none is =
    let all : k.items ++ take k.beside es ≡ k.items = ap (λ (n : ℕ). k.items ++ take n es) none ∙ append-nil k.items in
    ring_touch ks es k t first (subst (λ (ds : List Entry). IsTouchOf ds t) (sym all) is)

-- where some do, behind the mark's own
pub split_touch : (o : Option Touch) (ks : List Marked) (es : List Entry) (k : Marked) (n : ℕ) (newer : Touch) → slice_get ks 0 ≡ Some k → n ≡ k.beside → IsTouchOf k.items newer
    → IfSome o (λ t. (ds : List Entry) → IsTouchOf ds newer → IsTouchOf (ds ++ take n es) t) → IfSome o (λ t. IsSomeAnd (newest (events ks es)) (λ v. IsTouchOf v.changes t))
split_touch None ks es k n newer first many is behind = behind
split_touch (Some t) ks es k n newer first many is behind = ring_touch ks es k t first (subst (λ (m : ℕ). IsTouchOf (k.items ++ take m es) t) many (behind k.items is))

-- one of the changes beside it more
pub beside_touch : (t r : Touch) (es fs : List Entry) (n : ℕ) (e : Entry) → slice_get fs n ≡ Some e → ((ds : List Entry) → IsTouchOf ds t → IsTouchOf (ds ++ e ∷ []) r) → IsTouchOf (es ++ take n fs) t → IsTouchOf (es ++ take (n + 1) fs) r
beside_touch t r es fs n e at step is =
    subst (λ (ds : List Entry). IsTouchOf ds r) (append_assoc es (take n fs) (e ∷ []) ∙ ap (λ (ds : List Entry). es ++ ds) (sym (one_more fs n e at))) (step (es ++ take n fs) is)
  where
    one_more : (xs : List Entry) (k : ℕ) (x : Entry) → slice_get xs k ≡ Some x → take (k + 1) xs ≡ take k xs ++ x ∷ []
    one_more xs k x h = take_more xs k x (slice_get_within xs k x h) ∙ ap (λ (y : Entry). take k xs ++ y ∷ []) (get_or_from_slice_get xs k x x h)
