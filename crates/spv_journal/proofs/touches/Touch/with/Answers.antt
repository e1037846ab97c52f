use Rattle.std.proofs.Common.{◌≡◌, ℕ, Box, Global, List, [], ◌∷◌, ◌++◌, refl, subst, sym, true}
use Rattle.spv_base.specs.declared.ghosts.Ghost.{Ghost}
use Rattle.spv_base.specs.declared.lists.Path.{Path}
use Rattle.spv_base.specs.declared.values.Root.{Root}
use Rattle.spv_base.specs.declared.values.Value.{Value}
use Rattle.spv_undo.specs.declared.entries.Entry.{Entry}
use Rattle.spv_undo.specs.declared.entries.Entry.TheVariants.{Leaf, Part, NoValue, CellRegister, RowRegister, PointerRegister, FramePushed, FramePopped, PcMoved, EventAppended, StatusChanged, BarrierOpened}
use Rattle.spv_undo.specs.declared.entries.OldFrame.{OldFrame}
use Rattle.spv_undo.specs.declared.entries.OldPart.{OldPart}
use Rattle.spv_journal.specs.Touches.{IsTouchOf}
use Rattle.spv_journal.specs.declared.touches.Touch.{Touch}
use Rattle.spv_journal.proofs.TouchLemmas.{IsStill, IsStore, still_more, store_more}
use Rattle.spv_journal.proofs.touches.Touch.with.Goals as goal

stores : (t r : Touch) (e x : Entry) → r ≡ record t { stores = true } → e ≡ x → IsStore x → (es : List Entry) → IsTouchOf es t → IsTouchOf (es ++ e ∷ []) r
stores t r e x same is store = subst (λ (y : Touch). (es : List Entry) → IsTouchOf es t → IsTouchOf (es ++ e ∷ []) y) (sym same) (store_more t e x is store)

still_else : (e : Entry) → ((r : Root) (l : ℕ) (p : Ghost Path) (v : Value) → e ≡ Leaf r l p v → ⊥) → ((b : Box OldPart Global) → e ≡ Part b → ⊥) → (e ≡ FramePushed → ⊥) → ((b : Box OldFrame Global) → e ≡ FramePopped b → ⊥)
    → (e ≡ EventAppended → ⊥) → IsStill e
still_else (Leaf r l p v) leaf part pushed popped event = leaf r l p v refl
still_else (Part b) leaf part pushed popped event = part b refl
still_else FramePushed leaf part pushed popped event = pushed refl
still_else (FramePopped b) leaf part pushed popped event = popped b refl
still_else EventAppended leaf part pushed popped event = event refl
still_else (NoValue n) leaf part pushed popped event = tt
still_else (CellRegister n v) leaf part pushed popped event = tt
still_else (RowRegister b) leaf part pushed popped event = tt
still_else (PointerRegister n o) leaf part pushed popped event = tt
still_else (PcMoved pc) leaf part pushed popped event = tt
still_else (StatusChanged status) leaf part pushed popped event = tt
still_else (BarrierOpened word) leaf part pushed popped event = tt

pub returns-in-Leaf : goal.returns-in-Leaf
returns-in-Leaf c = stores c.args.self c.with_store.result c.args.entry.now _ c.with_store.ensures c.in-Leaf.is tt

pub returns-in-Part : goal.returns-in-Part
returns-in-Part c = stores c.args.self c.with_store-in-Part.result c.args.entry.now _ c.with_store-in-Part.ensures c.in-Part.is tt

pub returns-in_default : goal.returns-in_default
returns-in_default c =
    let n = c.in_default in
    still_more c.args.self c.args.entry.now (still_else c.args.entry.now n.not-Leaf n.not-Part n.not-FramePushed n.not-FramePopped n.not-EventAppended)
