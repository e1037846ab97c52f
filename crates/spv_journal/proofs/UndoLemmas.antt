-- Events that can be undone, one after the other.
use Rattle.std.proofs.Common.{◌≡◌, ◌∙◌, ap, ℕ, ◌-◌, Bool, true, false, nat_le, if◌then◌else◌, List, [], ◌∷◌, ◌++◌, Option, Some, refl, sym, subst}
use Rattle.std.specs.Option.{option_map_or}
use Rattle.spv_base.specs.declared.values.Root.{Root}
use Rattle.spv_base.specs.declared.values.Value.{Value}
use Rattle.spv_journal.specs.Events.{Event, Kept, fitting, newest, older, opened, size_of}
use Rattle.spv_journal.specs.Marks.{Marked, items_of, moved}
use Rattle.spv_undo.specs.Entries.{variable_item}
use Rattle.spv_journal.specs.Rings.{event_of, made}
use Rattle.spv_undo.specs.Undo.{CanUndo, CanUndoAll, undo, undo_all}
use Rattle.spv_journal.specs.Undo.{CanUndoNewest, CanUnwind, before}
use Rattle.spv_undo.specs.declared.entries.Entry.{Entry}
use Rattle.spv_journal.specs.declared.marks.Change.{Change}
use Rattle.spv_journal.specs.declared.marks.Change.TheVariants.{Variable}
use Rattle.spv_state.specs.State.{State}
use Rattle.spv_undo.proofs.Exports.{front_undoes}

-- the events that there is room for
pub fitting_unwinds : (n : ℕ) (vs : List Event) (s : State) → CanUnwind vs s → CanUnwind (fitting n vs) s
fitting_unwinds n [] s can = tt
fitting_unwinds n (v ∷ vs) s can = by_room (fitting_unwinds (n - size_of v) vs (before v s) can.1) (nat_le (size_of v) n)
  where
    by_room : CanUnwind (fitting (n - size_of v) vs) (before v s) → (b : Bool) → CanUnwind (if b then v ∷ fitting (n - size_of v) vs else []) s
    by_room rest true = (can.0, rest)
    by_room rest false = tt

-- the newest event
pub newest_undoes : (vs : List Event) (s : State) → CanUnwind vs s → CanUndoNewest vs s
newest_undoes [] s can = tt
newest_undoes (v ∷ vs) s can = can.0

-- the events behind the newest
pub older_unwind : (vs : List Event) (s : State) → CanUnwind vs s → CanUnwind (older vs) (option_map_or (λ v. before v s) (newest vs) s)
older_unwind [] s can = tt
older_unwind (v ∷ vs) s can = can.1

-- a variable is set before the pc moves: it can be put back after the move is undone
pub variable_first : (i w : ℕ) (m : Bool) (change : Change) (root : Root) (tree x : Value) (s t : State) → change ≡ Variable root → CanUndoAll i (items_of m w change tree) s → t ≡ undo_all i (moved m w) s → x ≡ tree
    → CanUndo i (variable_item root x) t
variable_first i w m change root tree x s t is can back same =
    let all = subst (λ (k : Change). CanUndoAll i (items_of m w k tree) s) is can in
    let last = (front_undoes i (moved m w) (variable_item root tree ∷ []) s all).1 in
    subst (λ (v : Value). CanUndo i (variable_item root v) t) (sym same) (subst (λ (y : State). CanUndo i (variable_item root tree) y) (sym back) last.0)

-- ---- the event that is being made

pub record Making (m : Marked) (es : List Entry) (k : Kept) (s : State) : Type 0 where
  pub is : Some (event_of m es) ≡ k.gathered
  pub can : CanUndoAll m.happening.inv (m.items ++ es) s

-- it is the newest, and can be undone
pub making : (b : Bool) (m : Marked) (es : List Entry) (k : Kept) (s : State) → b ≡ true → made b m es ≡ k.gathered → CanUndoNewest (opened k.gathered k.ring) s → Making m es k s
making b m es k s now view can =
    let is : Some (event_of m es) ≡ k.gathered = ap (λ (x : Bool). made x m es) (sym now) ∙ view in
    record { is = is; can = subst (λ (o : Option Event). CanUndoNewest (opened o k.ring) s) (sym is) can }
