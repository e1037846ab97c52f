-- Changes that are undone one after the other.
use Rattle.std.proofs.Common.{◌≡◌, ℕ, List, [], ◌∷◌, ◌++◌, refl}
use Rattle.spv_state.specs.State.{State}
use Rattle.spv_undo.specs.Undo.{CanUndoAll, undo, undo_all}
use Rattle.spv_undo.specs.declared.entries.Entry.{Entry}

pub front_undoes : (i : ℕ) (xs ys : List Entry) (s : State) → CanUndoAll i (xs ++ ys) s → CanUndoAll i xs s × CanUndoAll i ys (undo_all i xs s)
front_undoes i [] ys s can = (tt, can)
front_undoes i (x ∷ xs) ys s can = let rest = front_undoes i xs ys (undo i x s) can.1 in ((can.0, rest.0), rest.1)

pub undo_both : (i : ℕ) (xs ys : List Entry) (s : State) → undo_all i ys (undo_all i xs s) ≡ undo_all i (xs ++ ys) s
undo_both i [] ys s = refl
undo_both i (x ∷ xs) ys s = undo_both i xs ys (undo i x s)
