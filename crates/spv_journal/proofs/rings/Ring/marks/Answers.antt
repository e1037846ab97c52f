use Rattle.std.proofs.Common.{◌∙◌, ap, length, sym}
use Rattle.spv_journal.specs.Rings.{Ringed}
use Rattle.spv_journal.proofs.RingLemmas.{as_many}
use Rattle.spv_journal.proofs.rings.Ring.marks.Goals as goal

pub returns : goal.returns
returns c = c.len.ensures.len ∙ sym (as_many c.self.inside.marks.items c.self.inside.entries.items) ∙ ap (λ (r : Ringed). length r.events) c.self.view_is
