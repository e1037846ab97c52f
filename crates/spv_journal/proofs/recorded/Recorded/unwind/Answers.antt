use Rattle.std.proofs.Common.{subst, sym}
use Rattle.spv_journal.specs.Events.{Kept, older, opened}
use Rattle.spv_journal.specs.Undo.{CanUnwind}
use Rattle.spv_journal.proofs.UndoLemmas.{newest_undoes, older_unwind}
use Rattle.spv_journal.proofs.recorded.Recorded.unwind.Goals as goal

pub unwind-requires : goal.unwind-requires
unwind-requires c =
    let j = c.self.inside.journal in
    newest_undoes (opened j.gathered j.ring) c.self.inside.whole c.self.invariant

pub invariant_of-self : goal.invariant_of-self
invariant_of-self c =
    let j = c.self.inside.journal in
    subst (λ (k : Kept). CanUnwind (opened k.gathered k.ring) c.unwind.new.whole) (sym c.unwind.ensures.journal)
    (subst (CanUnwind (older (opened j.gathered j.ring))) (sym c.unwind.ensures.whole) (older_unwind (opened j.gathered j.ring) c.self.inside.whole c.self.invariant))
