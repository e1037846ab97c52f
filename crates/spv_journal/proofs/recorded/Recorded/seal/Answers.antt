use Rattle.std.proofs.Common.{subst, sym}
use Rattle.spv_journal.specs.Events.{Kept, opened}
use Rattle.spv_journal.specs.Undo.{CanUnwind}
use Rattle.spv_journal.proofs.UndoLemmas.{fitting_unwinds}
use Rattle.spv_journal.proofs.recorded.Recorded.seal.Goals as goal

pub invariant_of-self : goal.invariant_of-self
invariant_of-self c =
    let j = c.self.inside.journal in
    subst (λ (k : Kept). CanUnwind (opened k.gathered k.ring) c.self.inside.whole) (sym c.seal.ensures) (fitting_unwinds j.limit (opened j.gathered j.ring) c.self.inside.whole c.self.invariant)
