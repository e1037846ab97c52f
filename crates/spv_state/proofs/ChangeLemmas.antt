-- The primitive changes of a state.
use Rattle.std.proofs.Common.{◌≡◌, ◌≢◌, ◌∙◌, inl, inr, ℕ, zero, suc, ◌-◌, ◌<◌, ◌≤◌, List, [], ◌∷◌, ◌++◌, Option, Some, None, IsSome, Result, Ok, Err, length, length-append, take, get_or, refl, sym, ap, subst, arith, slice_get, slice_set}
use Rattle.std.specs.Option.{MatchOption, option_map_or}
use Rattle.std.proofs.lemmas.Option.{slice_get-get_or}
use Rattle.spv_base.specs.Entries.{change}
use Rattle.spv_base.specs.Variables.{Roots}
use Rattle.spv_base.specs.declared.causes.MemErr.{MemErr}
use Rattle.spv_base.specs.declared.causes.MemErr.TheVariants.{OutOfBounds}
use Rattle.spv_base.specs.declared.values.Pointer.{Pointer}
use Rattle.spv_base.specs.declared.values.Value.{Value}
use Rattle.spv_base.proofs.Exports.{length_change, change_still}
use Rattle.spv_frame.specs.Frames.{Held as Frame}
use Rattle.spv_frame.specs.Registers.{Planned}
use Rattle.spv_frame.specs.Stacks.{Stacked, top}
use Rattle.spv_mem.specs.Memory.{Held as Memory, Leaves, Levels, Stores, entered, load_of, stored}
use Rattle.spv_mem.proofs.Exports.{change_set, get_set}
use Rattle.spv_statuses.specs.Group.{Held as Statuses}
use Rattle.spv_state.specs.Rooms.{AreBounded, IsBounded}
use Rattle.spv_state.specs.State.{State, on_frame, on_frames, on_memory, pop_frame, push_frame, top_of, with_top, without_last, without_locals, without_top}

-- ---- stacks of which one changes

-- a stack that is put back changed is a change of the list
pub put_is : (ks : List Stacked) (i : ℕ) (k new : Stacked) (g : Stacked → Stacked) → i < length ks → k ≡ get_or ks i k → new ≡ g k → slice_set ks i new ≡ change i g ks
put_is ks i k new g inside here made =
    let at : slice_get ks i ≡ Some k = slice_get-get_or ks i k inside ∙ ap (λ (x : Stacked). Some x) (sym here) in
    ap (slice_set ks i) made ∙ sym (change_set i g ks k at)

-- a stack that keeps its bounds keeps those of the list
pub put_bounded : (ks : List Stacked) (i : ℕ) (k new : Stacked) → i < length ks → k ≡ get_or ks i k → AreBounded ks → (IsBounded k → IsBounded new) → AreBounded (slice_set ks i new)
put_bounded ks i k new inside here all keeps j x at =
    elim (get_set ks i j new x at) [
      | inl old ↦ all j x old
      | inr is ↦ subst IsBounded (sym is.1) (keeps (all i k (slice_get-get_or ks i k inside ∙ ap (λ (y : Stacked). Some y) (sym here))))
    ]

-- a change of the top frame keeps the bounds
pub top_bounded : (g : Frame → Frame) (k new : Stacked) → new ≡ on_frames g k → IsBounded k → IsBounded new
top_bounded g k new made bounded =
    subst IsBounded (sym made)
    (record {
      within = subst (λ (n : ℕ). n ≤ k.room) (sym (length_change (length k.frames - 1) g k.frames)) bounded.within;
      narrow = bounded.narrow;
    })

-- a frame that is taken away keeps them
pub without_is : {A : Type 0} (xs : List A) (x : A) → take (length (xs ++ x ∷ []) - 1) (xs ++ x ∷ []) ≡ xs
without_is {A} xs x = ap (λ (n : ℕ). take n (xs ++ x ∷ [])) (count xs) ∙ front xs
  where
    count : (ys : List A) → length (ys ++ x ∷ []) - 1 ≡ length ys
    count [] = refl
    count (y ∷ ys) = let c : length (ys ++ x ∷ []) ≡ suc (length ys) = more ys in omega arith
      where
        more : (zs : List A) → length (zs ++ x ∷ []) ≡ suc (length zs)
        more [] = refl
        more (z ∷ zs) = ap suc (more zs)

    front : (ys : List A) → take (length ys) (ys ++ x ∷ []) ≡ ys
    front [] = refl
    front (y ∷ ys) = ap (λ (zs : List A). y ∷ zs) (front ys)

pub left_is : (k new : Stacked) (o : Option Frame) → new.room ≡ k.room → MatchOption o ((k.frames ≡ []) × (new.frames ≡ [])) (λ f. k.frames ≡ new.frames ++ f ∷ []) → new ≡ without_top k
left_is k new None room both =
    let frames : new.frames ≡ without_last k.frames = both.1 ∙ ap (λ (fs : List Frame). without_last fs) (sym both.0) in
    λ i. record { frames = frames i; room = room i }
left_is k new (Some f) room is =
    let frames : new.frames ≡ without_last k.frames = sym (without_is new.frames f) ∙ ap (λ (fs : List Frame). without_last fs) (sym is) in
    λ i. record { frames = frames i; room = room i }

length_take : {A : Type 0} (n : ℕ) (xs : List A) → length (take n xs) ≤ length xs
length_take zero xs = omega arith
length_take (suc n) [] = omega arith
length_take (suc n) (x ∷ xs) = let rest : length (take n xs) ≤ length xs = length_take n xs in omega arith

pub left_bounded : (k new : Stacked) → new ≡ without_top k → IsBounded k → IsBounded new
left_bounded k new made bounded =
    let less : length (without_last k.frames) ≤ length k.frames = length_take (length k.frames - 1) k.frames in
    subst IsBounded (sym made) (record { within = omega (arith, less, bounded.within); narrow = bounded.narrow })

-- a frame more keeps them, where there is room
pub pushed_bounded : (f : Frame) (k new : Stacked) → new ≡ with_top f k → length k.frames < k.room → IsBounded k → IsBounded new
pushed_bounded f k new made room bounded =
    let count = length-append k.frames (f ∷ []) in
    subst IsBounded (sym made) (record { within = omega (arith, count, room); narrow = bounded.narrow })

-- ---- states

-- a state of these parts
abbrev pub seen : List Planned → Memory → List Stacked → Statuses → State
seen ps m ks ts = record { plans = ps; memory = m; stacks = ks; statuses = ts }

-- a part of memory that is there is put
pub stored_is : (m : Memory) (i : ℕ) (p : Pointer) (u : Value) (new : Memory) (handed : Value) (result : Result (Unit {0}) MemErr)
    → IsSome (load_of m i p) → Stores m i p u new handed result → new ≡ stored i p u m
stored_is m i p u new handed result there stores = by_load (load_of m i p) there stores
  where
    by_load : (o : Option Value) → IsSome o
        → MatchOption o ((result ≡ Err OutOfBounds) × (new ≡ m) × (handed ≡ u)) (λ w. (result ≡ Ok tt) × (new ≡ stored i p u m) × (handed ≡ w)) → new ≡ stored i p u m
    by_load None some h = absurd (cc)
    by_load (Some w) some h = h.1

-- and what was there is handed back
pub handed_is : (m : Memory) (i : ℕ) (p : Pointer) (u : Value) (new : Memory) (handed : Value) (result : Result (Unit {0}) MemErr)
    → IsSome (load_of m i p) → Stores m i p u new handed result → load_of m i p ≡ Some handed
handed_is m i p u new handed result there stores = by_load (load_of m i p) there stores
  where
    by_load : (o : Option Value) → IsSome o
        → MatchOption o ((result ≡ Err OutOfBounds) × (new ≡ m) × (handed ≡ u)) (λ w. (result ≡ Ok tt) × (new ≡ stored i p u m) × (handed ≡ w)) → o ≡ Some handed
    by_load None some h = absurd (cc)
    by_load (Some w) some h = ap (λ (x : Value). Some x) (sym h.2)

pub put_memory : (ps : List Planned) (m new : Memory) (ks : List Stacked) (ts : Statuses) (s : State) (g : Memory → Memory) → seen ps m ks ts ≡ s → new ≡ g m → seen ps new ks ts ≡ on_memory g s
put_memory ps m new ks ts s g view made = ap (λ (x : Memory). seen ps x ks ts) made ∙ ap (on_memory g) view

pub put_stack : (ps : List Planned) (m : Memory) (ks : List Stacked) (ts : Statuses) (s : State) (i : ℕ) (k new : Stacked) (g : Frame → Frame) → seen ps m ks ts ≡ s → i < length ks → k ≡ get_or ks i k
    → new ≡ on_frames g k → seen ps m (slice_set ks i new) ts ≡ on_frame i g s
put_stack ps m ks ts s i k new g view inside here made = ap (λ (xs : List Stacked). seen ps m xs ts) (put_is ks i k new (on_frames g) inside here made) ∙ ap (on_frame i g) view

-- the locals that are taken away
pub without_entered : (i : ℕ) (es : Roots) (ls : List Levels) → change i without_locals (change i (λ (l : Levels). record l { list = l.list ++ es ∷ [] }) ls) ≡ ls
without_entered i es [] = refl
without_entered zero es (l ∷ ls) = ap (λ (xs : List Roots). record l { list = xs } ∷ ls) (without_is l.list es)
without_entered (suc i) es (l ∷ ls) = ap (λ (xs : List Levels). l ∷ xs) (without_entered i es ls)

pub locals_left : (m new : Memory) (i : ℕ) (o : Option Roots) → Leaves m i new o → new ≡ record m { locals = change i without_locals m.locals }
locals_left m new i None both =
    let none : change i without_locals m.locals ≡ m.locals = change_still i without_locals m.locals
    (λ l at. ap (λ (xs : List Roots). record l { list = without_last xs }) (both.1 l at) ∙ ap (λ (xs : List Roots). record l { list = xs }) (sym (both.1 l at))) in
    both.0 ∙ ap (λ (ls : List Levels). record m { locals = ls }) (sym none)
locals_left m new i (Some es) is =
    sym (ap (λ (x : Memory). record x { locals = change i without_locals x.locals }) is ∙ ap (λ (ls : List Levels). record new { locals = ls }) (without_entered i es new.locals))

pub drop_frame : (ps : List Planned) (m after : Memory) (ks : List Stacked) (ts : Statuses) (s : State) (i : ℕ) (k new : Stacked) → seen ps m ks ts ≡ s → i < length ks → k ≡ get_or ks i k
    → new ≡ without_top k → after ≡ record m { locals = change i without_locals m.locals } → seen ps after (slice_set ks i new) ts ≡ pop_frame i s
drop_frame ps m after ks ts s i k new view inside here made left =
    ap (λ (xs : List Stacked). seen ps after xs ts) (put_is ks i k new without_top inside here made)
    ∙ ap (λ (x : Memory). seen ps x (change i without_top ks) ts) left ∙ ap (pop_frame i) view

-- a frame that is entered, with its variables
pub add_frame : (ps : List Planned) (m after : Memory) (ks : List Stacked) (ts : Statuses) (s : State) (i : ℕ) (k new : Stacked) (f : Frame) (es : Roots) → seen ps m ks ts ≡ s → i < length ks → k ≡ get_or ks i k
    → new ≡ with_top f k → after ≡ entered i es m → seen ps after (slice_set ks i new) ts ≡ push_frame i f es s
add_frame ps m after ks ts s i k new f es view inside here made with_locals =
    ap (λ (xs : List Stacked). seen ps after xs ts) (put_is ks i k new (with_top f) inside here made)
    ∙ ap (λ (x : Memory). seen ps x (change i (with_top f) ks) ts) with_locals ∙ ap (push_frame i f es) view

-- the stack of an invocation is one of the state
pub stack_at : {ps : List Planned} {m : Memory} {ks : List Stacked} {ts : Statuses} {s : State} (i : ℕ) (k : Stacked) → seen ps m ks ts ≡ s → i < length ks → k ≡ get_or ks i k → slice_get s.stacks i ≡ Some k
stack_at {ps} {m} {ks} {ts} {s} i k view inside here =
    subst (λ (x : State). slice_get x.stacks i ≡ Some k) view (slice_get-get_or ks i k inside ∙ ap (λ (x : Stacked). Some x) (sym here))

-- ---- the top frame

pub some_frames : (fs : List Frame) → IsSome (top fs) → fs ≢ []
some_frames [] some none = absurd (cc)
some_frames (f ∷ fs) some none = cc

pub inside : {ps : List Planned} {m : Memory} {ks : List Stacked} {ts : Statuses} {s : State} {i : ℕ} → seen ps m ks ts ≡ s → i < length s.stacks → i < length ks
inside {ps} {m} {ks} {ts} {s} {i} view h = subst (λ (x : State). i < length x.stacks) (sym view) h

pub some_top : (ps : List Planned) (m : Memory) (ks : List Stacked) (ts : Statuses) (s : State) (i : ℕ) (k : Stacked) → seen ps m ks ts ≡ s → i < length ks → k ≡ get_or ks i k → IsSome (top_of s i) → k.frames ≢ []
some_top ps m ks ts s i k view inside here some =
    let at : slice_get ks i ≡ Some k = slice_get-get_or ks i k inside ∙ ap (λ (x : Stacked). Some x) (sym here) in
    let own : IsSome (top_of (seen ps m ks ts) i) = subst (λ (x : State). IsSome (top_of x i)) (sym view) some in
    some_frames k.frames (subst (λ (o : Option Stacked). IsSome (top (option_map_or (λ (x : Stacked). x.frames) o []))) at own)

pub one_bounded : (ks : List Stacked) (i : ℕ) (k : Stacked) → i < length ks → k ≡ get_or ks i k → AreBounded ks → IsBounded k
one_bounded ks i k inside here all = all i k (slice_get-get_or ks i k inside ∙ ap (λ (x : Stacked). Some x) (sym here))

pub stacks_stay : (i : ℕ) (g : Frame → Frame) (s : State) → i < length s.stacks → i < length (on_frame i g s).stacks
stacks_stay i g s inside = subst (λ (n : ℕ). i < n) (sym (length_change i (on_frames g) s.stacks)) inside
