use Rattle.std.proofs.Common.{◌∙◌, Option, ap, subst, sym}
use Rattle.std.specs.Option.{option_map_or}
use Rattle.spv_base.specs.declared.happenings.Happening.{Happening}
use Rattle.spv_journal.specs.Events.{Event, Kept, newest, opened}
use Rattle.spv_undo.specs.Undo.{CanUndoAll, undo_all}
use Rattle.spv_journal.specs.Undo.{before}
use Rattle.spv_undo.proofs.Exports.{front_undoes, undo_both}
use Rattle.spv_journal.proofs.UndoLemmas.{making}
use Rattle.spv_journal.proofs.journal.Journal.unwind.Goals as goal

pub undo-requires : goal.undo-requires
undo-requires c =
    let m = c.self.inside.mark in
    let es = c.self.inside.gathered.items in
    let now = making c.self.inside.making m es c.args.self.now c.args.whole.now c.if-self.true (ap (λ (k : Kept). k.gathered) c.self.view_is) c.requires in
    (front_undoes m.happening.inv m.items es c.args.whole.now now.can).0

pub undo_gathered-requires : goal.undo_gathered-requires
undo_gathered-requires c =
    let m = c.self.inside.mark in
    let es = c.self.inside.gathered.items in
    let now = making c.self.inside.making m es c.args.self.now c.args.whole.now c.if-self.true (ap (λ (k : Kept). k.gathered) c.self.view_is) c.requires in
    let rest = (front_undoes m.happening.inv m.items es c.args.whole.now now.can).1 in
    subst (λ (h : Happening). CanUndoAll h.inv es c.undo.new.whole) (sym c.happening-happening.ensures) (subst (CanUndoAll m.happening.inv es) (sym c.undo.ensures) rest)

pub returns-then-self-clause-whole : goal.returns-then-self-clause-whole
returns-then-self-clause-whole c =
    let m = c.self.inside.mark in
    let es = c.self.inside.gathered.items in
    let whole = c.args.whole.now in
    let now = making c.self.inside.making m es c.args.self.now whole c.if-self.true (ap (λ (k : Kept). k.gathered) c.self.view_is) c.requires in
    c.undo_gathered.ensures.whole
    ∙ ap (λ (h : Happening). undo_all h.inv es c.undo.new.whole) c.happening-happening.ensures
    ∙ ap (undo_all m.happening.inv es) c.undo.ensures
    ∙ undo_both m.happening.inv m.items es whole
    ∙ ap (λ (o : Option Event). option_map_or (λ (v : Event). before v whole) (newest (opened o c.args.self.now.ring)) whole) now.is
