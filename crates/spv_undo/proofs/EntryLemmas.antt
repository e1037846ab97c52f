-- Registers, frames and parts whose entries lead back.
use Rattle.std.proofs.Common.{◌≡◌, ◌∙◌, ℕ, ◌-◌, ◌<◌, ◌≤◌, arith, Bool, true, false, List, [], Option, Some, None, length, option_map, refl, sym, ap, subst}
use Rattle.std.specs.Option.{IsSomeAnd, option_map_or}
use Rattle.spv_base.specs.Entries.{writes}
use Rattle.spv_base.specs.declared.values.Pointer.{Pointer}
use Rattle.spv_base.specs.declared.values.Value.{Value, Ptr, out-Value}
use Rattle.spv_base.specs.declared.values.Value.TheOpen.{Value-F}
use Rattle.spv_types.specs.Rows.{leaves}
use Rattle.spv_types.specs.Shapes.{pointer_in}
use Rattle.spv_frame.specs.Frames.{Held as Frame}
use Rattle.spv_frame.specs.Numbers.{HasCells, HasPointer, HoldsPointer, HoldsValue, with_pointer, with_value}
use Rattle.spv_frame.specs.Calls.{id_at}
use Rattle.spv_frame.specs.Registers.{ids, marked, number_of}
use Rattle.spv_frame.specs.Stacks.{Stacked, top}
use Rattle.spv_frame.proofs.Exports.{inside}
use Rattle.spv_valid.specs.Acceptance.{Accepted}
use Rattle.spv_state.specs.Slots.{IsExchanged, IsHeldPointer}
use Rattle.spv_state.specs.Sound.{IsSoundFrame}
use Rattle.spv_state.specs.State.{State, on_frame, on_frames, top_of, with_level, with_register}
use Rattle.spv_state.proofs.Exports.{writes_nothing, change_same}
use Rattle.spv_undo.specs.OldValues.{KeepsPointer, KeepsValue}
use Rattle.spv_undo.specs.Entries.{count_of}
use Rattle.spv_undo.specs.Undo.{HasTop, Undoes}
use Rattle.spv_undo.specs.declared.entries.Entry.{Entry}
use Rattle.spv_undo.specs.declared.entries.Entry.TheVariants.{Leaf, Part, NoValue, CellRegister, RowRegister, PointerRegister, FramePushed, FramePopped, PcMoved, EventAppended, StatusChanged, BarrierOpened}
use Rattle.spv_undo.proofs.LawLemmas.{frame_back, has_top, pointer_back, top_after, value_back}
use Rattle.spv_base.proofs.Exports.{change_still, out_pointer, reads_put, some_and}

-- ---- values

pub value_undone : (i n k : ℕ) (o : Option Value) (e : Entry) (v : Value) (s : State) → i < length s.stacks → IsSomeAnd (top_of s i) (HasCells n k) → IsSomeAnd (top_of s i) (HoldsValue n o) → KeepsValue n o k e
    → Undoes i e s (on_frame i (with_value n (Some v)) s)
value_undone i n k o e v s low room held keeps = each e keeps
  where
    back : (m : ℕ) (x : Option Value) → m ≡ n → o ≡ x → on_frame i (with_value m x) (on_frame i (with_value n (Some v)) s) ≡ s
    back m x same was =
        ap (λ (y : ℕ). on_frame i (with_value y x) (on_frame i (with_value n (Some v)) s)) same
        ∙ frame_back i (with_value n x) (with_value n (Some v)) s
        (some_and (top_of s i) (HoldsValue n o) (λ f. with_value n x (with_value n (Some v) f) ≡ f) (λ f h. value_back n x (Some v) f (subst (λ (y : Option Value). HoldsValue n y f) was h)) held)

    cells : (m j : ℕ) → m ≡ n → k ≡ j → HasTop (on_frame i (with_value n (Some v)) s) i (HasCells m j)
    cells m j same count =
        has_top i (with_value n (Some v)) s (HasCells m j) low
        (some_and (top_of s i) (HasCells n k) (λ f. HasCells m j (with_value n (Some v) f))
        (λ f h. subst (λ (y : ℕ). HasCells y j f) (sym same) (subst (λ (y : ℕ). HasCells n y f) count h)) room)

    numbered : (m : ℕ) → m ≡ n → HasTop (on_frame i (with_value n (Some v)) s) i (λ f. m < length f.plan.values)
    numbered m same =
        has_top i (with_value n (Some v)) s (λ f. m < length f.plan.values) low
        (some_and (top_of s i) (HasCells n k) (λ f. m < length f.plan.values) (λ f h. subst (λ (y : ℕ). y < length f.plan.values) (sym same) (inside f.plan.values n k h)) room)

    each : (x : Entry) → KeepsValue n o k x → Undoes i x s (on_frame i (with_value n (Some v)) s)
    each (NoValue m) h = record { back = back m None h.0 h.1; can = numbered m h.0 }
    each (CellRegister m w) h = record { back = back m (Some w) h.0 h.1; can = cells m 1 h.0 h.2 }
    each (RowRegister b) h = record { back = back b.value.number (Some b.value.row) h.0 h.1; can = cells b.value.number (length (leaves b.value.row)) h.0 h.2 }
    each (Leaf r l p w) h = absurd h
    each (Part b) h = absurd h
    each (PointerRegister m q) h = absurd h
    each FramePushed h = absurd h
    each (FramePopped b) h = absurd h
    each (PcMoved pc) h = absurd h
    each EventAppended h = absurd h
    each (StatusChanged t) h = absurd h
    each (BarrierOpened w) h = absurd h

pub value_counts : (n k : ℕ) (o : Option Value) (e : Entry) → KeepsValue n o k e → count_of e ≤ 1
value_counts n k o (NoValue m) h = omega arith
value_counts n k o (CellRegister m w) h = omega arith
value_counts n k o (RowRegister b) h = omega arith
value_counts n k o (Leaf r l p w) h = absurd h
value_counts n k o (Part b) h = absurd h
value_counts n k o (PointerRegister m q) h = absurd h
value_counts n k o FramePushed h = absurd h
value_counts n k o (FramePopped b) h = absurd h
value_counts n k o (PcMoved pc) h = absurd h
value_counts n k o EventAppended h = absurd h
value_counts n k o (StatusChanged t) h = absurd h
value_counts n k o (BarrierOpened w) h = absurd h

-- ---- a value that is exchanged

-- the value that was put is held
pub held_after : (i n : ℕ) (o : Option Value) (v : Value) (s : State) → IsSomeAnd (top_of s i) (HoldsValue n o) → IsSomeAnd (top_of (on_frame i (with_value n (Some v)) s) i) (HoldsValue n (Some v))
held_after i n o v s h = subst (λ (x : Option Frame). IsSomeAnd x (HoldsValue n (Some v))) (sym (top_after i (with_value n (Some v)) s)) (each (top_of s i) h)
  where
    each : (x : Option Frame) → IsSomeAnd x (HoldsValue n o) → IsSomeAnd (option_map (with_value n (Some v)) x) (HoldsValue n (Some v))
    each None h = h
    each (Some f) h = reads_put (id_at (ids f.plan.values) n) (Some v) o f.values h

pub same_row : (w v : Value) (has : Bool) → marked w has ≡ Some v → w ≡ v
same_row w v true h = cc
same_row w v false h = absurd cc

-- and comes back where another value is put
pub row_back : (o : Option Frame) (n : ℕ) (v w : Value) (has : Bool) → IsSomeAnd o (HoldsValue n (Some v)) → IsSomeAnd o (HoldsValue n (marked w has)) → w ≡ v
row_back None n v w has h g = absurd h
row_back (Some f) n v w has h g = let same : Some (marked w has) ≡ Some (Some v) = sym g ∙ h in same_row w v has (let e : marked w has ≡ Some v = cc in e)

-- a register that held what a row and a mark say took a value v: its entry leads back, and so does the exchange
pub record Exchanged (i n : ℕ) (v r : Value) (has : Bool) (s t : State) : Type 0 where
  pub undone : (e : Entry) → KeepsValue n (marked r has) (length (leaves r)) e → Undoes i e s t
  pub inside : i < length t.stacks
  pub room : IsSomeAnd (top_of t i) (HasCells n (length (leaves r)))
  pub back : on_frame i (with_value n (marked r has)) t ≡ s
  pub holds : IsSomeAnd (top_of t i) (HoldsValue n (Some v))

pub exchanged : (i id n : ℕ) (v r : Value) (has : Bool) (s t : State) → i < length s.stacks → IsSomeAnd (top_of s i) (IsExchanged id n v r has) → t ≡ on_frame i (with_value n (Some v)) s → Exchanged i n v r has s t
exchanged i id n v r has s t low was after =
    let room = some_and (top_of s i) (IsExchanged id n v r has) (HasCells n (length (leaves r))) (λ f h. subst (λ (k : ℕ). HasCells n k f) (sym h.long) h.cells) was in
    let held = some_and (top_of s i) (IsExchanged id n v r has) (HoldsValue n (marked r has)) (λ f h. h.holds) was in
    let top = has_top i (with_value n (Some v)) s (HasCells n (length (leaves r))) low room in
    subst (Exchanged i n v r has s) (sym after) (record {
      undone = λ e keeps. value_undone i n (length (leaves r)) (marked r has) e v s low room held keeps;
      inside = top.0;
      room = top.1;
      back = frame_back i (with_value n (marked r has)) (with_value n (Some v)) s
          (some_and (top_of s i) (HoldsValue n (marked r has)) (λ f. with_value n (marked r has) (with_value n (Some v) f) ≡ f) (λ f h. value_back n (marked r has) (Some v) f h) held);
      holds = held_after i n (marked r has) v s held;
    })

-- ---- pointers

pub pointer_undone : (i id n : ℕ) (o : Option Pointer) (e : Entry) (q : Pointer) (s : State) → i < length s.stacks → IsSomeAnd (top_of s i) (λ f. IsHeldPointer id f n o) → KeepsPointer n o e
    → Undoes i e s (on_frame i (with_pointer n (Some q)) s)
pointer_undone i id n o e q s low held keeps = each e keeps
  where
    each : (x : Entry) → KeepsPointer n o x → Undoes i x s (on_frame i (with_pointer n (Some q)) s)
    each (PointerRegister m b) h = record {
      back = ap (λ (y : ℕ). on_frame i (with_pointer y (option_map (λ x. x.value) b)) (on_frame i (with_pointer n (Some q)) s)) h.0
          ∙ frame_back i (with_pointer n (option_map (λ x. x.value) b)) (with_pointer n (Some q)) s
          (some_and (top_of s i) (λ f. IsHeldPointer id f n o) (λ f. with_pointer n (option_map (λ x. x.value) b) (with_pointer n (Some q) f) ≡ f)
          (λ f k. pointer_back n (option_map (λ x. x.value) b) (Some q) f (subst (λ (y : Option Pointer). HoldsPointer n y f) (sym h.1) k.holds)) held);
      can = has_top i (with_pointer n (Some q)) s (HasPointer m) low
          (some_and (top_of s i) (λ f. IsHeldPointer id f n o) (λ f. HasPointer m (with_pointer n (Some q) f)) (λ f k. subst (λ (y : ℕ). y < length f.plan.pointers) (sym h.0) k.there) held);
    }
    each (NoValue m) h = absurd h
    each (CellRegister m w) h = absurd h
    each (RowRegister b) h = absurd h
    each (Leaf r l p w) h = absurd h
    each (Part b) h = absurd h
    each FramePushed h = absurd h
    each (FramePopped b) h = absurd h
    each (PcMoved pc) h = absurd h
    each EventAppended h = absurd h
    each (StatusChanged t) h = absurd h
    each (BarrierOpened w) h = absurd h

pub pointer_counts : (n : ℕ) (o : Option Pointer) (e : Entry) → KeepsPointer n o e → count_of e ≤ 1
pointer_counts n o (PointerRegister m b) h = omega arith
pointer_counts n o (NoValue m) h = absurd h
pointer_counts n o (CellRegister m w) h = absurd h
pointer_counts n o (RowRegister b) h = absurd h
pointer_counts n o (Leaf r l p w) h = absurd h
pointer_counts n o (Part b) h = absurd h
pointer_counts n o FramePushed h = absurd h
pointer_counts n o (FramePopped b) h = absurd h
pointer_counts n o (PcMoved pc) h = absurd h
pointer_counts n o EventAppended h = absurd h
pointer_counts n o (StatusChanged t) h = absurd h
pointer_counts n o (BarrierOpened w) h = absurd h

-- ---- the definitions' changes

-- two changes that do the same to the top frame
pub same_frames : (i : ℕ) (g h : Frame → Frame) (s : State) → IsSomeAnd (top_of s i) (λ f. g f ≡ h f) → on_frame i g s ≡ on_frame i h s
same_frames i g h s same = ap (λ (ks : List Stacked). record s { stacks = ks }) (change_same i (on_frames g) (on_frames h) s.stacks (λ k at.
    let is : top_of s i ≡ top k.frames = ap (λ (o : Option Stacked). top (option_map_or (λ (x : Stacked). x.frames) o [])) at in
    ap (λ (fs : List Frame). record k { frames = fs })
    (change_same (length k.frames - 1) g h k.frames (λ f here. let one : top_of s i ≡ Some f = is ∙ here in subst (λ (o : Option Frame). IsSomeAnd o (λ x. g x ≡ h x)) one same))))

pub same_state : (i : ℕ) (g : Frame → Frame) (s : State) → IsSomeAnd (top_of s i) (λ f. g f ≡ f) → on_frame i g s ≡ s
same_state i g s same = ap (λ (ks : List Stacked). record s { stacks = ks }) (change_still i (on_frames g) s.stacks (λ k at.
    let is : top_of s i ≡ top k.frames = ap (λ (o : Option Stacked). top (option_map_or (λ (x : Stacked). x.frames) o [])) at in
    ap (λ (fs : List Frame). record k { frames = fs })
    (change_still (length k.frames - 1) g k.frames (λ f here. let one : top_of s i ≡ Some f = is ∙ here in subst (λ (o : Option Frame). IsSomeAnd o (λ x. g x ≡ x)) one same))))

pub level_is : (id : ℕ) (v : Value) (l : Value-F Value) (f : Frame) → pointer_in l ≡ None → with_level id v l f ≡ record f { values = writes id (Some v) f.values }
level_is id v (Value-F.Scalar c) f plain = refl
level_is id v (Value-F.List vs) f plain = refl
level_is id v (Value-F.Ptr q) f plain = absurd cc

pub register_is : (i id n : ℕ) (v r : Value) (has : Bool) (s : State) → pointer_in (out-Value v) ≡ None → IsSomeAnd (top_of s i) (IsExchanged id n v r has)
    → on_frame i (with_value n (Some v)) s ≡ on_frame i (with_register id v) s
register_is i id n v r has s plain was =
    same_frames i (with_value n (Some v)) (with_register id v) s
    (some_and (top_of s i) (IsExchanged id n v r has) (λ f. with_value n (Some v) f ≡ with_register id v f)
    (λ f h. ap (λ (x : ℕ). record f { values = writes x (Some v) f.values }) h.named ∙ sym (level_is id v (out-Value v) f plain)) was)

pub pointer_register_is : (i id n : ℕ) (o : Option Pointer) (q : Pointer) (s : State) → IsSomeAnd (top_of s i) (λ f. IsHeldPointer id f n o)
    → on_frame i (with_pointer n (Some q)) s ≡ on_frame i (with_register id (Ptr q)) s
pointer_register_is i id n o q s held =
    same_frames i (with_pointer n (Some q)) (with_register id (Ptr q)) s
    (some_and (top_of s i) (λ f. IsHeldPointer id f n o) (λ f. with_pointer n (Some q) f ≡ with_register id (Ptr q) f)
    (λ f h. ap (λ (x : ℕ). record f { pointers = writes x (Some q) f.pointers }) h.named ∙ rw (out_pointer q) refl) held)

-- a register that a frame doesn't have
pub no_register : (a : Accepted) (i id : ℕ) (v : Value) (s : State) → pointer_in (out-Value v) ≡ None → IsSomeAnd (top_of s i) (IsSoundFrame a) → IsSomeAnd (top_of s i) (λ f. number_of id (ids f.plan.values) ≡ None)
    → s ≡ on_frame i (with_register id v) s
no_register a i id v s plain sound none = sym (same_state i (with_register id v) s (both (top_of s i) sound none))
  where
    both : (o : Option Frame) → IsSomeAnd o (IsSoundFrame a) → IsSomeAnd o (λ f. number_of id (ids f.plan.values) ≡ None) → IsSomeAnd o (λ f. with_register id v f ≡ f)
    both None h g = h
    both (Some f) h g =
        level_is id v (out-Value v) f plain
        ∙ ap (λ (es : List (ℕ × Option Value)). record f { values = es }) (writes_nothing id (Some v) f.values (ap (number_of id) h.places.values ∙ g))

pub no_pointer_register : (a : Accepted) (i id : ℕ) (q : Pointer) (s : State) → IsSomeAnd (top_of s i) (IsSoundFrame a) → IsSomeAnd (top_of s i) (λ f. number_of id f.plan.pointers ≡ None)
    → s ≡ on_frame i (with_register id (Ptr q)) s
no_pointer_register a i id q s sound none = sym (same_state i (with_register id (Ptr q)) s (both (top_of s i) sound none))
  where
    both : (o : Option Frame) → IsSomeAnd o (IsSoundFrame a) → IsSomeAnd o (λ f. number_of id f.plan.pointers ≡ None) → IsSomeAnd o (λ f. with_register id (Ptr q) f ≡ f)
    both None h g = h
    both (Some f) h g =
        let level : with_register id (Ptr q) f ≡ record f { pointers = writes id (Some q) f.pointers } = rw (out_pointer q) refl in
        level ∙ ap (λ (es : List (ℕ × Option Pointer)). record f { pointers = es }) (writes_nothing id (Some q) f.pointers (ap (number_of id) h.places.pointers ∙ g))
