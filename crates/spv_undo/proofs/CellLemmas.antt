-- Variables and registers of one cell whose entries lead back.
use Rattle.std.proofs.Common.{◌≡◌, ◌∙◌, ℕ, zero, suc, ◌<◌, ◌≤◌, arith, Bool, true, false, [], ◌∷◌, Option, Some, None, IsSome, length, option_map, slice_get, refl, sym, ap, subst}
use Rattle.std.specs.Option.{IsSomeAnd, option_and_then}
use Rattle.spv_base.specs.Entries.{writes}
use Rattle.spv_base.specs.Parts.{part_at}
use Rattle.spv_base.specs.declared.values.Pointer.{Pointer}
use Rattle.spv_base.specs.declared.values.Root.{Root}
use Rattle.spv_base.specs.declared.values.Value.{Value, out-Value}
use Rattle.spv_types.specs.Rows.{leaves}
use Rattle.spv_types.specs.Shapes.{pointer_in}
use Rattle.spv_mem.specs.Memory.{Held as Memory, IsMemory, MayStore, load_of, root_value}
use Rattle.spv_mem.specs.Singles.{NamesRow}
use Rattle.spv_mem.proofs.Exports.{whole_row}
use Rattle.spv_frame.specs.Calls.{id_at}
use Rattle.spv_frame.specs.Frames.{Held as Frame}
use Rattle.spv_frame.specs.Numbers.{HasCells, HoldsValue, with_value}
use Rattle.spv_frame.specs.Registers.{IsSlotOf, Rooms, ids, marked, sizes}
use Rattle.spv_frame.specs.declared.slots.Slot.{Slot}
use Rattle.spv_state.specs.State.{State, on_frame, top_of, with_pc, with_register}
use Rattle.spv_undo.specs.Entries.{variable_item}
use Rattle.spv_undo.specs.Undo.{CanUndo, HasTop, Undoes, undo}
use Rattle.spv_undo.specs.declared.entries.Entry.{Entry}
use Rattle.spv_undo.specs.declared.entries.Entry.TheVariants.{PcMoved}
use Rattle.spv_undo.proofs.EntryLemmas.{level_is, same_frames}
use Rattle.spv_undo.proofs.LawLemmas.{has_top, pc_undone}
use Rattle.spv_undo.proofs.StoreLemmas.{put_back_leaf}
use Rattle.spv_base.proofs.Exports.{some_and}

-- ---- variables

abbrev pub whole : Root → Pointer
whole root = record { root = root; path = [] }

-- the variable that a root of an invocation names has one cell
abbrev pub HasOne : Memory → ℕ → Root → Type 0
HasOne m i root = IsSomeAnd (load_of m i (whole root)) (λ v. length (leaves v) ≡ 1)

pub named_whole : (m : Memory) (i : ℕ) (root : Root) → HasOne m i root → NamesRow m i (whole root) 0 1
named_whole m i root h = each (root_value m i root) refl h
  where
    each : (o : Option Value) → root_value m i root ≡ o → IsSomeAnd (option_and_then (λ v. part_at v []) o) (λ v. length (leaves v) ≡ 1) → NamesRow m i (whole root) 0 1
    each None is h = absurd h
    each (Some v) is h = record { value = v; is = is; row = whole_row v [] 1 refl (sym h) }

pub some_there : {X : Type 0} (o : Option X) (P : X → Type 0) → IsSomeAnd o P → IsSome o
some_there None P h = absurd h
some_there (Some x) P h = refl

-- the entry of the old value leads back
pub variable_undone : (i : ℕ) (root : Root) (u w x : Value) (s t : State) → CanUndo i (variable_item root u) s → t ≡ undo i (variable_item root u) s → load_of s.memory i (whole root) ≡ Some w → length (leaves u) ≡ 1
    → ∥ IsMemory s.memory ∥₁ → x ≡ w → Undoes i (variable_item root x) s t
variable_undone i root u w x s t can after h one is same =
    let b = put_back_leaf i (whole root) 0 u w s t after h one can.1 is can.2 in
    subst (λ (y : Value). Undoes i (variable_item root y) s t) (sym same) (record { back = b.back; can = (subst IsSome (sym b.load) refl, b.names, b.may) })

-- ---- registers

pub register_at : (rs : Rooms) (n id k : ℕ) → slice_get rs n ≡ Some (id, k) → (id_at (ids rs) n ≡ id) × (slice_get (sizes rs) n ≡ Some k)
register_at [] n id k h = absurd cc
register_at (r ∷ rs) zero id k h = let e : r ≡ (id, k) = cc in (ap (λ x. x.0) e, ap (λ x. Some x.1) e)
register_at (r ∷ rs) (suc n) id k h = register_at rs n id k h

-- a slot's number stands for its id
pub cell_register_is : (i : ℕ) (x : Slot) (v : Value) (s : State) → pointer_in (out-Value v) ≡ None → IsSomeAnd (top_of s i) (λ f. IsSlotOf f.plan.values x) → on_frame i (with_value x.number (Some v)) s ≡ on_frame i (with_register x.id v) s
cell_register_is i x v s plain slot =
    same_frames i (with_value x.number (Some v)) (with_register x.id v) s
    (some_and (top_of s i) (λ f. IsSlotOf f.plan.values x) (λ f. with_value x.number (Some v) f ≡ with_register x.id v f)
    (λ f h. ap (λ (k : ℕ). record f { values = writes k (Some v) f.values }) (register_at f.plan.values x.number x.id x.len h.long).0 ∙ sym (level_is x.id v (out-Value v) f plain)) slot)

-- the top frame of an invocation stands at a word
abbrev pub Stands : State → ℕ → ℕ → Type 0
Stands s i w = HasTop s i (λ f. f.pc ≡ w)

pub move_undone : (i pc w : ℕ) (s : State) → Stands s i w → Undoes i (PcMoved w) s (on_frame i (with_pc pc) s)
move_undone i pc w s h = pc_undone i pc w s h.0 (some_there (top_of s i) (λ f. f.pc ≡ w) h.1) (each (top_of s i) h.1)
  where
    each : (o : Option Frame) → IsSomeAnd o (λ f. f.pc ≡ w) → option_map (λ (f : Frame). f.pc) o ≡ Some w
    each None h = absurd h
    each (Some f) h = ap (λ (n : ℕ). Some n) h

-- a register doesn't move it
pub stands_still : (i n w : ℕ) (v : Value) (s t : State) → i < length s.stacks → IsSomeAnd (top_of s i) (λ f. f.pc ≡ w) → t ≡ on_frame i (with_value n (Some v)) s → Stands t i w
stands_still i n w v s t inside h after = subst (λ (x : State). Stands x i w) (sym after) (has_top i (with_value n (Some v)) s (λ f. f.pc ≡ w) inside h)
