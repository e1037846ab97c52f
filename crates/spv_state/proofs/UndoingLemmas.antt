-- What is put back in a state.
use Rattle.std.proofs.Common.{◌≡◌, ◌≢◌, ◌∙◌, ℕ, zero, suc, ◌-◌, ◌<◌, ◌≤◌, List, [], ◌∷◌, ◌++◌, Option, Some, None, IsSome, Result, Ok, Err, OnOk, OnErr, IfSome, get_or, length, set-set, refl, sym, ap, subst, arith, slice_get, slice_set}
use Rattle.std.specs.Option.{MatchOption, option_map_or}
use Rattle.std.proofs.lemmas.Option.{slice_get-get_or}
use Rattle.spv_base.specs.Entries.{change}
use Rattle.spv_base.specs.Variables.{Roots}
use Rattle.spv_base.specs.declared.values.PassedEvent.{PassedEvent}
use Rattle.spv_base.proofs.Exports.{length_change, change_same, change_twice, set_same}
use Rattle.spv_frame.specs.Frames.{Held as Frame}
use Rattle.spv_frame.specs.Registers.{Planned}
use Rattle.spv_frame.specs.Stacks.{Stacked, on_top, top}
use Rattle.spv_mem.specs.Memory.{AreVariables, Held as Memory, Leaves, Levels, entered}
use Rattle.spv_mem.proofs.Exports.{change_set}
use Rattle.spv_statuses.specs.Group.{Held as Statuses}
use Rattle.spv_state.specs.Rooms.{IsBounded}
use Rattle.spv_state.specs.State.{State, append_event, drop_event, on_frames, push_frame, top_of, with_top}
use Rattle.spv_state.proofs.ChangeLemmas.{inside, seen, stack_at, top_bounded, without_is}

-- the top frame of the stack that is changed
pub top_is : (ps : List Planned) (m : Memory) (ks : List Stacked) (ts : Statuses) (s : State) (i : ℕ) (k : Stacked) → seen ps m ks ts ≡ s → i < length ks → k ≡ get_or ks i k → top_of s i ≡ top k.frames
top_is ps m ks ts s i k view inside here =
    ap (λ (o : Option Stacked). top (option_map_or (λ (x : Stacked). x.frames) o [])) (stack_at i k view inside here)

-- ---- a frame that is taken away

pub frame_some : (k new : Stacked) (o : Option Frame) → k.frames ≢ [] → MatchOption o ((k.frames ≡ []) × (new.frames ≡ [])) (λ f. k.frames ≡ new.frames ++ f ∷ []) → IsSome o
frame_some k new None some both = absurd (some both.0)
frame_some k new (Some f) some is = refl

pub level_there : (ls : List Levels) (i : ℕ) → i < length ls → (l : Levels) × (slice_get ls i ≡ Some l)
level_there [] i h = absurd (omega arith)
level_there (l ∷ ls) zero h = (l, refl)
level_there (l ∷ ls) (suc i) h = level_there ls i (omega arith)

pub locals_some : (m new : Memory) (i : ℕ) (o : Option Roots) → i < length m.locals → ((l : Levels) → slice_get m.locals i ≡ Some l → (l.list ≢ []) × (length l.list ≤ l.room)) → Leaves m i new o → IsSome o
locals_some m new i None inside has left = let l = level_there m.locals i inside in absurd ((has l.0 l.1).0 (left.1 l.0 l.1))
locals_some m new i (Some es) inside has left = refl

pub variables_left : (m : Memory) (o : Option Roots) (es : Roots) → o ≡ Some es → IfSome o (λ xs. ∥ AreVariables m.types m.targets xs ∥₁) → ∥ AreVariables m.types m.targets es ∥₁
variables_left m o es is are = subst (λ (x : Option Roots). IfSome x (λ xs. ∥ AreVariables m.types m.targets xs ∥₁)) is are

frames_back : (ks : List Stacked) (i : ℕ) (k new : Stacked) (f : Frame) → i < length ks → k ≡ get_or ks i k → new.room ≡ k.room → k.frames ≡ new.frames ++ f ∷ [] → change i (with_top f) (slice_set ks i new) ≡ ks
frames_back ks i k new f inside here room frames =
    let at : slice_get ks i ≡ Some k = slice_get-get_or ks i k inside ∙ ap (λ (x : Stacked). Some x) (sym here) in
    let same : with_top f new ≡ k = λ j. record { frames = sym frames j; room = room j } in
    change_set i (with_top f) (slice_set ks i new) new (there ks i at)
    ∙ set-set ks i new (with_top f new) ∙ ap (slice_set ks i) same ∙ set_same ks i k at
  where
    there : (xs : List Stacked) (j : ℕ) → slice_get xs j ≡ Some k → slice_get (slice_set xs j new) j ≡ Some new
    there [] j h = cc
    there (x ∷ xs) zero h = refl
    there (x ∷ xs) (suc j) h = there xs j h

pub put_top_back : (ps : List Planned) (m after : Memory) (ks : List Stacked) (ts : Statuses) (s : State) (i : ℕ) (k new : Stacked) (o : Option Frame) (l : Option Roots) (f : Frame) (es : Roots)
    → seen ps m ks ts ≡ s → i < length ks → k ≡ get_or ks i k → new.room ≡ k.room → MatchOption o ((k.frames ≡ []) × (new.frames ≡ [])) (λ g. k.frames ≡ new.frames ++ g ∷ [])
    → Leaves m i after l → o ≡ Some f → l ≡ Some es → s ≡ push_frame i f es (seen ps after (slice_set ks i new) ts)
put_top_back ps m after ks ts s i k new o l f es view inside here room frames left frame locals =
    let last : k.frames ≡ new.frames ++ f ∷ [] = subst (λ (x : Option Frame). MatchOption x ((k.frames ≡ []) × (new.frames ≡ [])) (λ g. k.frames ≡ new.frames ++ g ∷ [])) frame frames in
    let memory : m ≡ entered i es after = subst (Leaves m i after) locals left in
    sym view ∙ ap (λ (x : Memory). seen ps x ks ts) memory ∙ ap (λ (xs : List Stacked). seen ps (entered i es after) xs ts) (sym (frames_back ks i k new f inside here room last))

-- ---- events

-- two changes of the top frame, of which the second undoes the first
top_back : (f g : Frame → Frame) (fs : List Frame) → ((x : Frame) → f (g x) ≡ x) → on_top f (on_top g fs) ≡ fs
top_back f g fs same =
    ap (λ (n : ℕ). change (n - 1) f (on_top g fs)) (length_change (length fs - 1) g fs) ∙ change_twice (length fs - 1) f g fs ∙ change_same (length fs - 1) (λ x. f (g x)) fs same

pub event_dropped : (k new : Stacked) (e : PassedEvent) → k ≡ on_frames (append_event e) new → new ≡ on_frames drop_event k
event_dropped k new e is =
    sym (ap (on_frames drop_event) is
    ∙ ap (λ (fs : List Frame). record new { frames = fs }) (top_back drop_event (append_event e) new.frames (λ x. ap (λ (es : List PassedEvent). record x { events = es }) (without_is x.events e))))

pub appended_bounded : {T E : Type 0} (r : Result T E) (k new : Stacked) (e : PassedEvent) → OnOk r (new ≡ on_frames (append_event e) k) → OnErr r (new ≡ k) → IsBounded k → IsBounded new
appended_bounded (Ok x) k new e ok err bounded = top_bounded (append_event e) k new ok bounded
appended_bounded (Err x) k new e ok err bounded = subst IsBounded (sym err) bounded

pub stack_kept : (ps : List Planned) (m : Memory) (ks : List Stacked) (ts : Statuses) (s : State) (i : ℕ) (k new : Stacked) → seen ps m ks ts ≡ s → i < length ks → k ≡ get_or ks i k → new ≡ k → seen ps m (slice_set ks i new) ts ≡ s
stack_kept ps m ks ts s i k new view inside here same =
    let at : slice_get ks i ≡ Some k = slice_get-get_or ks i k inside ∙ ap (λ (x : Stacked). Some x) (sym here) in
    ap (λ (xs : List Stacked). seen ps m xs ts) (ap (slice_set ks i) same ∙ set_same ks i k at) ∙ view
