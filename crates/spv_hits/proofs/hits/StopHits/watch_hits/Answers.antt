use Rattle.std.proofs.Common.{◌∙◌, ap, sym}
use Rattle.spv_hits.specs.Kept.{Stopping}
use Rattle.spv_hits.proofs.HitLemmas.{none_differs}
use Rattle.spv_hits.proofs.hits.StopHits.watch_hits.Goals as goal

pub returns-then-self-clause-hit : goal.returns-then-self-clause-hit
returns-then-self-clause-hit c = λ o noted same.
    sym (none_differs c.args.self.now o c.args.group.now.group noted (same.all (ap (λ (s : Stopping). s.same.all) (sym c.self.view_is) ∙ c.if-self.true)))
