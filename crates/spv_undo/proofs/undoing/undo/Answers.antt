use Rattle.std.proofs.Common.{subst, sym}
use Rattle.spv_mem.specs.Memory.{AreVariables, MayStore}
use Rattle.spv_undo.specs.Undo.{CanUndo}
use Rattle.spv_undo.specs.declared.entries.Entry.{Entry}
use Rattle.spv_undo.specs.declared.entries.OldFrame.{OldFrame}
use Rattle.spv_undo.specs.declared.entries.OldPart.{OldPart}
use Rattle.spv_undo.proofs.undoing.undo.Goals as goal

pub store-requires-clause-may : goal.store-requires-clause-may
store-requires-clause-may c =
    let can = subst (λ (e : Entry). CanUndo c.args.inv e c.args.whole.now) c.in-Part.is c.requires in
    subst (λ (o : OldPart). ∥ MayStore c.args.whole.now.memory c.args.inv o.place o.row ∥₁) (sym c.into_inner-place.ensures) can.1

pub enter-requires-clause-variables : goal.enter-requires-clause-variables
enter-requires-clause-variables c =
    let can = subst (λ (e : Entry). CanUndo c.args.inv e c.args.whole.now) c.in-FramePopped.is c.requires in
    subst (λ (o : OldFrame). ∥ AreVariables c.args.whole.now.memory.types c.args.whole.now.memory.targets o.locals ∥₁) (sym c.into_inner-frame.ensures) can.1
