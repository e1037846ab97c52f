-- The number of the register of an id in the plan of a sound frame, and what it holds.
use Rattle.std.proofs.Common.{◌≡◌, ◌∙◌, ℕ, zero, suc, ◌-◌, ◌<◌, ◌==◌, Bool, List, [], ◌∷◌, Option, Some, None, length, get_or, slice_get, slice_set, inl, inr, sym, ap, subst}
use Rattle.std.specs.Option.{IsSomeAnd, MatchOption}
use Rattle.spv_base.specs.Entries.{reads, writes}
use Rattle.spv_base.specs.declared.values.Pointer.{Pointer}
use Rattle.spv_base.specs.declared.values.Value.{Value}
use Rattle.spv_types.specs.Rows.{leaves}
use Rattle.spv_frame.specs.declared.slots.PointerSlot.{PointerSlot}
use Rattle.spv_frame.specs.declared.slots.Slot.{Slot}
use Rattle.spv_frame.specs.Calls.{id_at}
use Rattle.spv_frame.specs.Frames.{Held as Frame}
use Rattle.spv_frame.specs.Numbers.{with_value}
use Rattle.spv_frame.specs.Registers.{IsPointerSlotOf, IsSlotOf, Planned, Rooms, ids, marked, number_of, sizes}
use Rattle.spv_frame.specs.Stacks.{Stacked, on_top, top}
use Rattle.spv_frame.proofs.Exports.{number_at, number_inside}
use Rattle.spv_mem.specs.Memory.{Held as Memory}
use Rattle.spv_statuses.specs.Group.{Held as Statuses}
use Rattle.spv_plans.specs.Plans.{plan_of}
use Rattle.spv_valid.specs.Acceptance.{Accepted}
use Rattle.spv_state.specs.Rooms.{IsBounded}
use Rattle.spv_state.specs.Slots.{IsExchanged, IsHeldPointer}
use Rattle.spv_state.specs.Sound.{IsSoundFrame}
use Rattle.spv_state.specs.State.{State, on_frame, on_frames}
use Rattle.spv_state.proofs.ChangeLemmas.{put_stack, seen, top_bounded}
use Rattle.spv_state.proofs.Lists.{change_same}
use Rattle.spv_state.proofs.SlotLemmas.{own_plan}
use Rattle.spv_state.proofs.UndoingLemmas.{stack_kept}
use Rattle.std.proofs.lemmas.Bool.{eqb-true}

size_at : (rs : Rooms) (n : ℕ) (r : ℕ × ℕ) → slice_get rs n ≡ Some r → slice_get (sizes rs) n ≡ Some r.1
size_at [] n r h = cc
size_at (x ∷ rs) zero r h = let e : x ≡ r = cc in ap (λ (y : ℕ × ℕ). Some y.1) e
size_at (x ∷ rs) (suc n) r h = size_at rs n r h

-- the id that stands where it is found
found_id : (ks : List ℕ) (id n : ℕ) → number_of id ks ≡ Some n → id_at ks n ≡ id
found_id [] id n h = cc
found_id (k ∷ ks) id n h =
    elim (number_at (k == id) id ks n h) [
      | inl here ↦ ap (id_at (k ∷ ks)) here.1 ∙ eqb-true k id here.0
      | inr there ↦ ap (id_at (k ∷ ks)) there.1.next ∙ found_id ks id there.1.before there.1.is
    ]

-- ---- a register of a value

-- an exchange by a slot is one by its number
pub value_put : (k new : Stacked) (s : Slot) (o : Option Value) → IsSomeAnd (top k.frames) (λ f. IsSlotOf f.plan.values s)
    → new ≡ record k { frames = on_top (λ f. record f { values = writes s.id o f.values }) k.frames } → new ≡ on_frames (with_value s.number o) k
value_put k new s o there made =
    made ∙ ap (λ (fs : List Frame). record k { frames = fs })
    (change_same (length k.frames - 1) (λ f. record f { values = writes s.id o f.values }) (with_value s.number o) k.frames
    (λ f at. ap (λ (id : ℕ). record f { values = writes id o f.values }) (sym (found_id (ids f.plan.values) s.id s.number (slot f at).named))))
  where
    slot : (f : Frame) → top k.frames ≡ Some f → IsSlotOf f.plan.values s
    slot f at = subst (λ (x : Option Frame). IsSomeAnd x (λ g. IsSlotOf g.plan.values s)) at there

pub exchanged : (o : Option Frame) (id : ℕ) (s : Slot) (v r : Value) (has : Bool) → IsSomeAnd o (λ f. IsSlotOf f.plan.values s) → s.id ≡ id → length (leaves v) ≡ s.len → length (leaves r) ≡ s.len
    → IsSomeAnd o (λ f. reads s.id f.values ≡ Some (marked r has)) → IsSomeAnd o (IsExchanged id s.number v r has)
exchanged None id s v r has there is fit room reading = absurd there
exchanged (Some f) id s v r has there is fit room reading =
    let at : id_at (ids f.plan.values) s.number ≡ s.id = found_id (ids f.plan.values) s.id s.number there.named in
    record {
      named = at ∙ is;
      cells = size_at f.plan.values s.number (s.id, s.len) there.long ∙ ap Some (sym fit);
      holds = ap (λ (k : ℕ). reads k f.values) at ∙ reading;
      long = room ∙ sym fit;
    }

pub none_there : (a : Accepted) (function : ℕ) (o : Option Frame) (id : ℕ) → IsSomeAnd o (λ f. f.plan.function ≡ function) → IsSomeAnd o (IsSoundFrame a) → number_of id (ids (plan_of a function).values) ≡ None
    → IsSomeAnd o (λ f. number_of id (ids f.plan.values) ≡ None)
none_there a function None id same sound none = absurd sound
none_there a function (Some f) id same sound none = subst (λ (p : Planned). number_of id (ids p.values) ≡ None) (sym (own_plan a function f same sound).plan) none

-- ---- where the exchange was made, or no register is there

pub exchanged_bounded : (x : Option ℕ) (k new : Stacked) (o : Option Value) → MatchOption x (new ≡ k) (λ n. new ≡ on_frames (with_value n o) k) → IsBounded k → IsBounded new
exchanged_bounded None k new o made bounded = subst IsBounded (sym made) bounded
exchanged_bounded (Some n) k new o made bounded = top_bounded (with_value n o) k new made bounded

pub exchanged_state : (x : Option ℕ) (ps : List Planned) (m : Memory) (ks : List Stacked) (ts : Statuses) (s : State) (i : ℕ) (k new : Stacked) (o : Option Value) → seen ps m ks ts ≡ s → i < length ks → k ≡ get_or ks i k
    → MatchOption x (new ≡ k) (λ n. new ≡ on_frames (with_value n o) k) → MatchOption x (seen ps m (slice_set ks i new) ts ≡ s) (λ n. seen ps m (slice_set ks i new) ts ≡ on_frame i (with_value n o) s)
exchanged_state None ps m ks ts s i k new o view inside here made = stack_kept ps m ks ts s i k new view inside here made
exchanged_state (Some n) ps m ks ts s i k new o view inside here made = put_stack ps m ks ts s i k new (with_value n o) view inside here made

-- ---- a register of a pointer

pub own_pointer_slot : (a : Accepted) (f : Frame) (s : PointerSlot) (function : ℕ) → IsSoundFrame a f → function ≡ f.plan.function → IsPointerSlotOf (plan_of a function).pointers s → IsPointerSlotOf f.plan.pointers s
own_pointer_slot a f s function sound same slot = subst (λ (p : Planned). IsPointerSlotOf p.pointers s) (ap (plan_of a) same ∙ sym sound.plan) slot

pub no_pointer_held : (a : Accepted) (f : Frame) (function id : ℕ) → IsSoundFrame a f → function ≡ f.plan.function → number_of id (plan_of a function).pointers ≡ None → number_of id f.plan.pointers ≡ None
no_pointer_held a f function id sound same none = subst (λ (p : Planned). number_of id p.pointers ≡ None) (ap (plan_of a) same ∙ sym sound.plan) none

pub held_pointer : (a : Accepted) (f : Frame) (function id : ℕ) (s : PointerSlot) (o : Option Pointer) → IsSoundFrame a f → function ≡ f.plan.function → IsPointerSlotOf (plan_of a function).pointers s → s.id ≡ id
    → reads s.id f.pointers ≡ Some o → IsHeldPointer id f s.number o
held_pointer a f function id s o sound same slot is reading =
    let here = own_pointer_slot a f s function sound same slot in
    let at : id_at f.plan.pointers s.number ≡ s.id = found_id f.plan.pointers s.id s.number here in
    record { named = at ∙ is; there = number_inside f.plan.pointers s.number s.id here; holds = ap (λ (k : ℕ). reads k f.pointers) at ∙ reading }
