use Rattle.std.proofs.Common.{Bool, subst, sym}
use Rattle.spv_journal.specs.Marks.{Marked, items_of}
use Rattle.spv_journal.specs.Touches.{IsTouchOf}
use Rattle.spv_journal.specs.declared.touches.FrameChange.TheVariants.{Same}
use Rattle.spv_journal.proofs.TouchLemmas.{mark_is}
use Rattle.spv_journal.proofs.marks.Mark.touch.Goals as goal

pub returns : goal.returns
returns c =
    let m = c.self.inside in
    subst (λ (k : Marked). IsTouchOf k.items (record { stores = c.is_store.result; events = 0; frames = Same })) c.self.view_is
    (subst (λ (b : Bool). IsTouchOf (items_of m.data.moved m.data.word m.data.change m.tree.value) (record { stores = b; events = 0; frames = Same })) (sym c.is_store.ensures)
    (mark_is m.data.moved m.data.word m.data.change m.tree.value))
