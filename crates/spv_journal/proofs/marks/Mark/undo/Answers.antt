use Rattle.std.proofs.Common.{◌≡◌, ◌∙◌, Bool, ap, subst, sym}
use Rattle.spv_state.specs.State.{on_frame, with_pc}
use Rattle.spv_journal.specs.Marks.{Marked, moved}
use Rattle.spv_undo.specs.Undo.{CanUndoAll, undo_all}
use Rattle.spv_journal.proofs.UndoLemmas.{variable_first}
use Rattle.spv_journal.proofs.marks.Mark.undo.Goals as goal
use Rattle.spv_journal.proofs.marks.Mark.undo.Goals.{in-Status, in_default, then-self, else-self}

pub exchange_variable-requires : goal.exchange_variable-requires
exchange_variable-requires c =
    let m = c.self.inside.data in
    let s = c.args.whole.now in
    let can = subst (λ (k : Marked). CanUndoAll k.happening.inv k.items s) (sym c.self.view_is) c.requires in
    let last = λ (back : c.if-self.whole ≡ undo_all m.inv (moved m.moved m.word) s). variable_first m.inv m.word m.moved m.change c.in-Variable.root c.self.inside.tree.value c.single-value-in-Variable.result s c.if-self.whole c.in-Variable.is can back
    c.single-value-in-Variable.ensures in
    elim c.match-self.branch [
      | in-Status w ↦ absurd (let e = w.in-Status.is in let f = c.in-Variable.is in cc)
      | in_default w ↦ elim c.if-self.branch [
        | then-self v ↦ last (v.whole-is ∙ v.set_pc.ensures.after ∙ ap (on_frame m.inv (with_pc m.word)) w.whole-is ∙ ap (λ (b : Bool). undo_all m.inv (moved b m.word) s) (sym v.if-self.true))
        | else-self v ↦ last (v.whole-is ∙ w.whole-is ∙ ap (λ (b : Bool). undo_all m.inv (moved b m.word) s) (sym v.if-self.false))
      ]
    ]
