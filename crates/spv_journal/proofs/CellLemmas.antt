-- Variables and registers of one cell whose entries lead back.
use Rattle.std.proofs.Common.{◌≡◌, ◌∙◌, ℕ, zero, suc, ◌<◌, ◌≤◌, arith, Bool, true, false, [], ◌∷◌, Option, Some, None, IsSome, length, option_map, slice_get, refl, sym, ap, subst}
use Rattle.std.specs.Option.{IsSomeAnd, option_and_then}
use Rattle.spv_base.specs.Entries.{writes}
use Rattle.spv_base.specs.Parts.{part_at}
use Rattle.spv_base.specs.declared.values.Pointer.{Pointer}
use Rattle.spv_base.specs.declared.values.Root.{Root}
use Rattle.spv_base.specs.declared.values.Value.{Value, out-Value}
use Rattle.spv_types.specs.Rows.{leaves}
use Rattle.spv_types.specs.Shapes.{pointer_in}
use Rattle.spv_mem.specs.Memory.{Held as Memory, IsMemory, MayStore, load_of, root_value}
use Rattle.spv_mem.specs.Singles.{NamesRow}
use Rattle.spv_mem.proofs.Exports.{whole_row}
use Rattle.spv_frame.specs.Calls.{id_at}
use Rattle.spv_frame.specs.Frames.{Held as Frame}
use Rattle.spv_frame.specs.Numbers.{HasCells, HoldsValue, with_value}
use Rattle.spv_frame.specs.Registers.{IsSlotOf, Rooms, ids, marked, sizes}
use Rattle.spv_frame.specs.declared.slots.Slot.{Slot}
use Rattle.spv_state.specs.State.{State, on_frame, top_of, with_pc, with_register}
use Rattle.spv_undo.specs.OldValues.{KeepsValue}
use Rattle.spv_journal.specs.Events.{Kept, fitting, opened}
use Rattle.spv_undo.specs.Entries.{count_of}
use Rattle.spv_journal.specs.Held.{Held}
use Rattle.spv_journal.specs.Marks.{Marked, register_item}
use Rattle.spv_journal.specs.Rings.{event_of}
use Rattle.spv_journal.specs.Undo.{CanUnwind}
use Rattle.spv_base.specs.declared.happenings.Happening.{Happening}
use Rattle.spv_undo.specs.Entries.{variable_item}
use Rattle.spv_undo.specs.Undo.{CanUndo, HasTop, Undoes, undo}
use Rattle.spv_undo.specs.declared.entries.Entry.{Entry}
use Rattle.spv_undo.specs.declared.entries.Entry.TheVariants.{PcMoved}
use Rattle.spv_undo.proofs.Exports.{value_undone}
use Rattle.spv_undo.proofs.Exports.{frame_back, has_top, value_back}
use Rattle.spv_journal.proofs.RecordLemmas.{AtOnce, at_once, held_of}
use Rattle.spv_undo.proofs.Exports.{HasOne, Stands, move_undone, named_whole, register_at, some_there, whole}
use Rattle.spv_base.proofs.Exports.{some_and}

-- ---- variables

-- a value may be put there
pub can_put : (i : ℕ) (root : Root) (u : Value) (s : State) (j : Kept) (old : Held) → held_of s j ≡ old → HasOne old.state.memory i root → ∥ MayStore old.state.memory i (whole root) u ∥₁ → CanUndo i (variable_item root u) s
can_put i root u s j old is one may = subst (λ (h : Held). CanUndo i (variable_item root u) h.state) (sym is) (
  some_there (load_of old.state.memory i (whole root)) (λ v. length (leaves v) ≡ 1) one,
  ∣ named_whole old.state.memory i root one ∣₁,
  may,
)

-- ---- registers

-- the register of a slot held what a value r and a mark say, and took a value
pub record CellExchanged (i n : ℕ) (r : Value) (has : Bool) (s t : State) : Type 0 where
  pub undone : (e : Entry) → KeepsValue n (marked r has) 1 e → Undoes i e s t
  pub top : HasTop t i (HasCells n 1)
  pub back : on_frame i (with_value n (marked r has)) t ≡ s

pub cell_exchanged : (i : ℕ) (x : Slot) (v r : Value) (has : Bool) (s t : State) (j : Kept) (old : Held) → held_of s j ≡ old → i < length old.state.stacks → IsSomeAnd (top_of old.state i) (λ f. IsSlotOf f.plan.values x) → x.len ≡ 1
    → t ≡ on_frame i (with_value x.number (Some v)) s → IsSomeAnd (top_of s i) (HoldsValue x.number (marked r has)) → CellExchanged i x.number r has s t
cell_exchanged i x v r has s t j old is inside slot one after held =
    let n = x.number in
    let low = subst (λ (h : Held). i < length h.state.stacks) (sym is) inside in
    let there = subst (λ (h : Held). IsSomeAnd (top_of h.state i) (λ f. IsSlotOf f.plan.values x)) (sym is) slot in
    let room = some_and (top_of s i) (λ f. IsSlotOf f.plan.values x) (HasCells n 1) (λ f h. (register_at f.plan.values n x.id x.len h.long).1 ∙ ap Some one) there in
    subst (CellExchanged i n r has s) (sym after) (record {
      undone = λ e keeps. value_undone i n 1 (marked r has) e v s low room held keeps;
      top = has_top i (with_value n (Some v)) s (HasCells n 1) low room;
      back = frame_back i (with_value n (marked r has)) (with_value n (Some v)) s
          (some_and (top_of s i) (HoldsValue n (marked r has)) (λ f. with_value n (marked r has) (with_value n (Some v) f) ≡ f) (λ f h. value_back n (marked r has) (Some v) f h) held);
    })

-- what a mark says of the register
pub register_kept : (n : ℕ) (r : Value) (has : Bool) → KeepsValue n (marked r has) 1 (register_item n r has)
register_kept n r true = (refl, refl, refl)
register_kept n r false = (refl, refl)

pub register_counts : (n : ℕ) (r : Value) (has : Bool) → count_of (register_item n r has) ≤ 1
register_counts n r true = omega arith
register_counts n r false = omega arith

-- ---- moves

-- ---- events that are made at once

-- a change of one register or variable, and the move behind it
pub made_at_once : (h : Happening) (e : Entry) (pc : ℕ) (mark : Marked) (s t u : State) (j k : Kept) (old : Held) → held_of s j ≡ old → old.gathered ≡ None → Undoes h.inv e s t → Stands t h.inv h.word → u ≡ on_frame h.inv (with_pc pc) t
    → mark ≡ record { happening = h; items = PcMoved h.word ∷ e ∷ []; beside = 0 } → k ≡ record j { ring = fitting j.limit (event_of mark [] ∷ j.ring) } → count_of e ≤ 1 → CanUnwind (opened j.gathered j.ring) s → AtOnce h old u k
made_at_once h e pc mark s t u j k old is none first there after made kept few can =
    at_once h e (PcMoved h.word) s t u j k old is none (kept ∙ ap (λ (m : Marked). record j { ring = fitting j.limit (event_of m [] ∷ j.ring) }) made) first
    (subst (Undoes h.inv (PcMoved h.word) t) (sym after) (move_undone h.inv pc h.word t there)) (omega (arith, few)) can
