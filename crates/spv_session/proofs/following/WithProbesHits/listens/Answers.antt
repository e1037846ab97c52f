use Rattle.spv_hits.specs.Halts.{told_before}
use Rattle.spv_session.proofs.following.WithProbesHits.listens.Goals as goal

pub returns-clause-none : goal.returns-clause-none
returns-clause-none g c = λ none from to follows. (follows.0, c.has_one.ensures.none none (told_before to))
