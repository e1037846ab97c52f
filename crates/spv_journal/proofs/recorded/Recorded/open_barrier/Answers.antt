use Rattle.std.proofs.Common.{◌≡◌, ◌<◌, arith, subst, sym, true}
use Rattle.spv_undo.specs.declared.entries.Entry.TheVariants.{BarrierOpened}
use Rattle.std.specs.List.{list_all}
use Rattle.spv_statuses.specs.Invocations.{waits_or_finished}
use Rattle.spv_undo.proofs.Exports.{barrier_undone}
use Rattle.spv_journal.proofs.RecordLemmas.{extended, making_of}
use Rattle.spv_journal.specs.Held.{Held}
use Rattle.spv_undo.specs.Undo.{Undoes}
use Rattle.spv_journal.proofs.recorded.Recorded.open_barrier.Goals as goal

pub invariant_of-self-2 : goal.invariant_of-self-2
invariant_of-self-2 c =
    let s = c.self.inside.whole in
    let i = making_of c.args.self.now.gathered c.requires.making in
    let waiting = (subst (λ (h : Held). list_all (waits_or_finished c.args.word) h.state.statuses.list ≡ true) (sym c.self.view_is) c.requires.waiting) in
    let within = (subst (λ (h : Held). c.args.word < h.state.statuses.words) (sym c.self.view_is) c.requires.within) in
    let u : Undoes i.0 (BarrierOpened c.args.word) s c.open_barrier.new.self =
    subst (Undoes i.0 (BarrierOpened c.args.word) s) (sym c.open_barrier.ensures) (barrier_undone i.0 c.args.word s waiting within) in
    let x = extended 1 i.0 (BarrierOpened c.args.word) c.self.inside.whole c.open_barrier.new.self c.self.inside.journal c.add.new.self c.args.self.now c.self.view_is i.1 c.in_ok-add.ensures.ok u c.self.invariant (omega arith) in
    x.unwinds

pub returns-clause-recorded : goal.returns-clause-recorded
returns-clause-recorded c =
    let s = c.self.inside.whole in
    let i = making_of c.args.self.now.gathered c.requires.making in
    let waiting = (subst (λ (h : Held). list_all (waits_or_finished c.args.word) h.state.statuses.list ≡ true) (sym c.self.view_is) c.requires.waiting) in
    let within = (subst (λ (h : Held). c.args.word < h.state.statuses.words) (sym c.self.view_is) c.requires.within) in
    let u : Undoes i.0 (BarrierOpened c.args.word) s c.open_barrier.new.self =
    subst (Undoes i.0 (BarrierOpened c.args.word) s) (sym c.open_barrier.ensures) (barrier_undone i.0 c.args.word s waiting within) in
    let x = extended 1 i.0 (BarrierOpened c.args.word) c.self.inside.whole c.open_barrier.new.self c.self.inside.journal c.add.new.self c.args.self.now c.self.view_is i.1 c.in_ok-add.ensures.ok u c.self.invariant (omega arith) in
    x.records
