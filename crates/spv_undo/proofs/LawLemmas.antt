-- Each change of a state, and the entry that undoes it.
use Rattle.std.proofs.Common.{◌≡◌, ◌≢◌, ◌∙◌, ℕ, zero, suc, ◌-◌, ◌<◌, ◌≤◌, true, List, [], ◌∷◌, ◌++◌, Option, Some, None, IsSome, length, length-set, option_map, slice_get, take, refl, sym, ap, subst, arith}
use Rattle.std.specs.List.{list_all}
use Rattle.std.specs.Option.{IsSomeAnd, option_map_or}
use Rattle.spv_base.specs.Entries.{change}
use Rattle.spv_base.specs.Variables.{Roots}
use Rattle.spv_base.specs.declared.values.PassedEvent.{PassedEvent}
use Rattle.spv_base.specs.declared.values.Pointer.{Pointer}
use Rattle.spv_base.specs.declared.values.Value.{Value}
use Rattle.spv_base.proofs.Exports.{change_back, length_change, change_here, changed_at, set_back}
use Rattle.spv_frame.specs.Frames.{Held as Frame}
use Rattle.spv_frame.specs.Numbers.{HoldsPointer, HoldsValue, with_pointer, with_value}
use Rattle.spv_frame.specs.Stacks.{Stacked, on_top, top}
use Rattle.spv_frame.proofs.Exports.{put_back}
use Rattle.spv_mem.specs.Memory.{AreVariables, Levels}
use Rattle.spv_statuses.specs.Invocations.{IsWithin, waits_or_finished}
use Rattle.spv_statuses.specs.declared.invocations.Status.{Status}
use Rattle.spv_statuses.proofs.Exports.{closed_opened, passed_opened}
use Rattle.spv_state.specs.State.{State, append_event, drop_event, on_frame, on_frames, open_barrier, pop_frame, push_frame, set_status, top_of, with_pc, with_top, without_last, without_locals, without_top}
use Rattle.spv_state.proofs.Exports.{without_is, some_frames, stacks_stay, without_entered, level_there}
use Rattle.spv_undo.specs.Undo.{HasRooms, HasTop, Undoes}
use Rattle.spv_undo.specs.declared.entries.Entry.TheVariants.{Leaf, Part, NoValue, CellRegister, RowRegister, PointerRegister, FramePushed, FramePopped, PcMoved, EventAppended, StatusChanged, BarrierOpened}
use Rattle.spv_undo.specs.declared.entries.Entry.{Entry}
use Rattle.spv_undo.specs.declared.entries.OldFrame.{OldFrame}
use Rattle.spv_undo.specs.OldValues.{popped}
use Rattle.spv_undo.specs.Entries.{count_of}
use Rattle.spv_state.specs.Rooms.{HasLocals, IsBounded}

-- ---- the top frame, changed

top_changed : (g : Frame → Frame) (fs : List Frame) → top (on_top g fs) ≡ option_map g (top fs)
top_changed g fs = ap (λ (n : ℕ). slice_get (on_top g fs) (n - 1)) (length_change (length fs - 1) g fs) ∙ change_here (length fs - 1) g fs

stack_top : (g : Frame → Frame) (o : Option Stacked) → top (option_map_or (λ (k : Stacked). k.frames) (option_map (on_frames g) o) []) ≡ option_map g (top (option_map_or (λ (k : Stacked). k.frames) o []))
stack_top g None = refl
stack_top g (Some k) = top_changed g k.frames

pub top_after : (i : ℕ) (g : Frame → Frame) (s : State) → top_of (on_frame i g s) i ≡ option_map g (top_of s i)
top_after i g s =
    ap (λ (o : Option Stacked). top (option_map_or (λ (k : Stacked). k.frames) o [])) (change_here i (on_frames g) s.stacks) ∙ stack_top g (slice_get s.stacks i)

-- what is so of the top frame before is so of it after
top_keeps : (o : Option Frame) (g : Frame → Frame) (P : Frame → Type 0) → IsSomeAnd o (λ f. P (g f)) → IsSomeAnd (option_map g o) P
top_keeps None g P h = h
top_keeps (Some f) g P h = h

pub has_top : (i : ℕ) (g : Frame → Frame) (s : State) (P : Frame → Type 0) → i < length s.stacks → IsSomeAnd (top_of s i) (λ f. P (g f)) → HasTop (on_frame i g s) i P
has_top i g s P inside h = (stacks_stay i g s inside, subst (λ (o : Option Frame). IsSomeAnd o P) (sym (top_after i g s)) (top_keeps (top_of s i) g P h))

-- a change of the top frame that another one undoes
pub frame_back : (i : ℕ) (f g : Frame → Frame) (s : State) → IsSomeAnd (top_of s i) (λ x. f (g x) ≡ x) → on_frame i f (on_frame i g s) ≡ s
frame_back i f g s h = ap (λ (ks : List Stacked). record s { stacks = ks }) (change_back i (on_frames g) (on_frames f) s.stacks (λ k at.
    ap (λ (fs : List Frame). record k { frames = fs }) (frames k at)))
  where
    frames : (k : Stacked) → slice_get s.stacks i ≡ Some k → on_top f (on_top g k.frames) ≡ k.frames
    frames k at =
        let same : top_of s i ≡ top k.frames = ap (λ (o : Option Stacked). top (option_map_or (λ (x : Stacked). x.frames) o [])) at in
        ap (λ (n : ℕ). change (n - 1) f (on_top g k.frames)) (length_change (length k.frames - 1) g k.frames)
        ∙ change_back (length k.frames - 1) g f k.frames (λ x here. let is : top_of s i ≡ Some x = same ∙ here in subst (λ (o : Option Frame). IsSomeAnd o (λ y. f (g y) ≡ y)) is h)

-- ---- the program counter

pub pc_undone : (i pc old : ℕ) (s : State) → i < length s.stacks → IsSome (top_of s i) → option_map (λ (f : Frame). f.pc) (top_of s i) ≡ Some old → Undoes i (PcMoved old) s (on_frame i (with_pc pc) s)
pc_undone i pc old s inside some was = record {
  back = frame_back i (with_pc old) (with_pc pc) s (each (top_of s i) some was);
  can = (stacks_stay i (with_pc pc) s inside, subst IsSome (sym (top_after i (with_pc pc) s)) (still (top_of s i) some));
}
  where
    each : (o : Option Frame) → IsSome o → option_map (λ (f : Frame). f.pc) o ≡ Some old → IsSomeAnd o (λ f. with_pc old (with_pc pc f) ≡ f)
    each None some h = absurd cc
    each (Some f) some h = let e : f.pc ≡ old = cc in ap (λ (n : ℕ). record f { pc = n }) (sym e)

    still : (o : Option Frame) → IsSome o → IsSome (option_map (with_pc pc) o)
    still None some = absurd cc
    still (Some f) some = refl

-- ---- events

pub event_undone : (i : ℕ) (e : PassedEvent) (s : State) → i < length s.stacks → IsSome (top_of s i) → Undoes i EventAppended s (on_frame i (append_event e) s)
event_undone i e s inside some = record {
  back = frame_back i drop_event (append_event e) s (each (top_of s i) some);
  can = has_top i (append_event e) s (λ f. f.events ≢ []) inside (there (top_of s i) some);
}
  where
    each : (o : Option Frame) → IsSome o → IsSomeAnd o (λ f. drop_event (append_event e f) ≡ f)
    each None some = absurd cc
    each (Some f) some = ap (λ (es : List PassedEvent). record f { events = es }) (without_is f.events e)

    not_empty : (es : List PassedEvent) → es ++ e ∷ [] ≢ []
    not_empty [] h = cc
    not_empty (x ∷ es) h = cc

    there : (o : Option Frame) → IsSome o → IsSomeAnd o (λ f. (append_event e f).events ≢ [])
    there None some = absurd cc
    there (Some f) some = not_empty f.events

-- ---- registers

pub value_back : (n : ℕ) (o x : Option Value) (f : Frame) → HoldsValue n o f → with_value n o (with_value n x f) ≡ f
value_back n o x f h = ap (λ es. record f { values = es }) (put_back _ x o f.values h)

pub pointer_back : (n : ℕ) (o x : Option Pointer) (f : Frame) → HoldsPointer n o f → with_pointer n o (with_pointer n x f) ≡ f
pointer_back n o x f h = ap (λ es. record f { pointers = es }) (put_back _ x o f.pointers h)

-- ---- statuses

pub status_undone : (i : ℕ) (status old : Status) (s : State) → i < length s.statuses.list → slice_get s.statuses.list i ≡ Some old → IsWithin s.statuses.words old → Undoes i (StatusChanged old) s (set_status i status s)
status_undone i status old s inside was within = record {
  back = ap (λ (l : List Status). record s { statuses = record s.statuses { list = l } }) (set_back s.statuses.list i old status was);
  can = (subst (λ (n : ℕ). i < n) (sym (length-set s.statuses.list i status)) inside, within);
}

pub barrier_undone : (i word : ℕ) (s : State) → list_all (waits_or_finished word) s.statuses.list ≡ true → word < s.statuses.words → Undoes i (BarrierOpened word) s (open_barrier s)
barrier_undone i word s waiting within = record {
  back = ap (λ (l : List Status). record s { statuses = record s.statuses { list = l } }) (closed_opened word s.statuses.list waiting);
  can = (passed_opened word s.statuses.list waiting, within);
}

-- ---- frames

stacks_back : (i : ℕ) (f : Frame) (ks : List Stacked) → change i without_top (change i (with_top f) ks) ≡ ks
stacks_back i f ks = change_back i (with_top f) without_top ks (λ k at. ap (λ (fs : List Frame). record k { frames = fs }) (without_is k.frames f))

pub frame_undone : (i : ℕ) (f : Frame) (es : Roots) (s : State) → i < length s.stacks → i < length s.memory.locals → Undoes i FramePushed s (push_frame i f es s)
frame_undone i f es s inside levels = record {
  back = ap (λ (ks : List Stacked). record s { memory = record s.memory { locals = change i without_locals (push_frame i f es s).memory.locals }; stacks = ks }) (stacks_back i f s.stacks)
      ∙ ap (λ (ls : List Levels). record s { memory = record s.memory { locals = ls } }) (without_entered i es s.memory.locals);
  can = (
    let n = length_change i (with_top f) s.stacks in omega (arith, n, inside),
    let n = length_change i (λ (l : Levels). record l { list = l.list ++ es ∷ [] }) s.memory.locals in omega (arith, n, levels),
  );
}

-- ---- a frame that was taken away

pub popped_counts : (e : Entry) (left : OldFrame) → popped e ≡ Some left → count_of e ≤ 1
popped_counts (FramePopped b) left is = omega arith
popped_counts (Leaf r l p w) left is = absurd cc
popped_counts (Part b) left is = absurd cc
popped_counts (NoValue n) left is = absurd cc
popped_counts (CellRegister n w) left is = absurd cc
popped_counts (RowRegister b) left is = absurd cc
popped_counts (PointerRegister n q) left is = absurd cc
popped_counts FramePushed left is = absurd cc
popped_counts (PcMoved pc) left is = absurd cc
popped_counts EventAppended left is = absurd cc
popped_counts (StatusChanged x) left is = absurd cc
popped_counts (BarrierOpened w) left is = absurd cc

less_by_one : {A : Type 0} (xs : List A) (n : ℕ) → xs ≢ [] → length xs ≤ n → length (without_last xs) < n
less_by_one {A} [] n some h = absurd (some refl)
less_by_one {A} (x ∷ xs) n some h =
    let e : length (x ∷ xs) - 1 ≡ length xs = omega arith in
    let long : length (without_last (x ∷ xs)) ≤ length xs = subst (λ (k : ℕ). length (take k (x ∷ xs)) ≤ length xs) (sym e) (short (length xs) (x ∷ xs)) in
    omega (arith, long, h)
  where
    short : (k : ℕ) (ys : List A) → length (take k ys) ≤ k
    short zero ys = omega arith
    short (suc k) [] = omega arith
    short (suc k) (y ∷ ys) = let r : length (take k ys) ≤ k = short k ys in omega (arith, r)

changed_was : {A : Type 0} (i : ℕ) (g : A → A) (xs : List A) (x y : A) → slice_get xs i ≡ Some x → slice_get (change i g xs) i ≡ Some y → y ≡ g x
changed_was i g xs x y at is = let e : slice_get (change i g xs) i ≡ Some (g x) = changed_at i g xs x at in cc

pub left_rooms : (i : ℕ) (s t : State) (k : Stacked) → t ≡ pop_frame i s → i < length s.stacks → i < length s.memory.locals → slice_get s.stacks i ≡ Some k → IsBounded k → IsSome (top_of s i) → HasLocals s i
    → HasRooms t i
left_rooms i s t k is inside levels at bounded some has = subst (λ (x : State). HasRooms x i) (sym is) (record {
  stacks = let n = length_change i without_top s.stacks in omega (arith, n, inside);
  room = λ y here.
      let same : y ≡ without_top k = changed_was i without_top s.stacks k y at here in
      let frames : k.frames ≢ [] = some_frames k.frames (subst (λ (o : Option Stacked). IsSome (top (option_map_or (λ (x : Stacked). x.frames) o []))) at some) in
      subst (λ (x : Stacked). length x.frames < x.room) (sym same) (less_by_one k.frames k.room frames bounded.within);
  levels = let n = length_change i without_locals s.memory.locals in omega (arith, n, levels);
  level = λ y here.
      let l = level_there s.memory.locals i levels in
      let same : y ≡ without_locals l.0 = changed_was i without_locals s.memory.locals l.0 y l.1 here in
      subst (λ (x : Levels). length x.list < x.room) (sym same) (less_by_one l.0.list l.0.room (has l.0 l.1).0 (has l.0 l.1).1);
})

pub frame_entry : (i : ℕ) (e : Entry) (left : OldFrame) (s t : State) → popped e ≡ Some left → s ≡ push_frame i left.frame left.locals t → HasRooms t i → ∥ AreVariables t.memory.types t.memory.targets left.locals ∥₁
    → Undoes i e s t
frame_entry i (FramePopped b) left s t is back rooms variables =
    let same : b.value ≡ left = cc in
    record {
      back = ap (λ (o : OldFrame). push_frame i o.frame o.locals t) same ∙ sym back;
      can = (rooms, subst (λ (o : OldFrame). ∥ AreVariables t.memory.types t.memory.targets o.locals ∥₁) (sym same) variables);
    }
frame_entry i (Leaf r l p w) left s t is back rooms variables = absurd cc
frame_entry i (Part b) left s t is back rooms variables = absurd cc
frame_entry i (NoValue n) left s t is back rooms variables = absurd cc
frame_entry i (CellRegister n w) left s t is back rooms variables = absurd cc
frame_entry i (RowRegister b) left s t is back rooms variables = absurd cc
frame_entry i (PointerRegister n q) left s t is back rooms variables = absurd cc
frame_entry i FramePushed left s t is back rooms variables = absurd cc
frame_entry i (PcMoved pc) left s t is back rooms variables = absurd cc
frame_entry i EventAppended left s t is back rooms variables = absurd cc
frame_entry i (StatusChanged x) left s t is back rooms variables = absurd cc
frame_entry i (BarrierOpened w) left s t is back rooms variables = absurd cc
