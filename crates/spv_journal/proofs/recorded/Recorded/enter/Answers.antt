use Rattle.std.proofs.Common.{◌<◌, length, arith, subst, sym}
use Rattle.spv_undo.specs.declared.entries.Entry.TheVariants.{FramePushed}
use Rattle.spv_mem.specs.Memory.{AreVariables}
use Rattle.spv_undo.proofs.Exports.{frame_undone}
use Rattle.spv_journal.proofs.RecordLemmas.{extended}
use Rattle.spv_journal.specs.Held.{Held}
use Rattle.spv_undo.specs.Undo.{Undoes}
use Rattle.spv_journal.proofs.recorded.Recorded.enter.Goals as goal

pub enter-requires-clause-variables : goal.enter-requires-clause-variables
enter-requires-clause-variables c = (subst (λ (h : Held). ∥ AreVariables h.state.memory.types h.state.memory.targets c.args.locals ∥₁) (sym c.self.view_is) c.requires.variables)

pub invariant_of-self-2 : goal.invariant_of-self-2
invariant_of-self-2 c =
    let s = c.self.inside.whole in
    let inside = (subst (λ (h : Held). c.args.i < length h.state.stacks) (sym c.self.view_is) c.requires.stacks) in
    let levels = (subst (λ (h : Held). c.args.i < length h.state.memory.locals) (sym c.self.view_is) c.requires.levels) in
    let u : Undoes c.args.i FramePushed s c.enter.new.self =
    subst (Undoes c.args.i FramePushed s) (sym c.enter.ensures) (frame_undone c.args.i c.args.frame c.args.locals s inside levels) in
    let x = extended 1 c.args.i FramePushed c.self.inside.whole c.enter.new.self c.self.inside.journal c.add.new.self c.args.self.now c.self.view_is c.requires.making c.in_ok-add.ensures.ok u c.self.invariant (omega arith) in
    x.unwinds

pub returns-clause-recorded : goal.returns-clause-recorded
returns-clause-recorded c =
    let s = c.self.inside.whole in
    let inside = (subst (λ (h : Held). c.args.i < length h.state.stacks) (sym c.self.view_is) c.requires.stacks) in
    let levels = (subst (λ (h : Held). c.args.i < length h.state.memory.locals) (sym c.self.view_is) c.requires.levels) in
    let u : Undoes c.args.i FramePushed s c.enter.new.self =
    subst (Undoes c.args.i FramePushed s) (sym c.enter.ensures) (frame_undone c.args.i c.args.frame c.args.locals s inside levels) in
    let x = extended 1 c.args.i FramePushed c.self.inside.whole c.enter.new.self c.self.inside.journal c.add.new.self c.args.self.now c.self.view_is c.requires.making c.in_ok-add.ensures.ok u c.self.invariant (omega arith) in
    x.records
