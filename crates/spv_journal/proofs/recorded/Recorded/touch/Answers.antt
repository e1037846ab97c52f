use Rattle.spv_journal.proofs.TouchLemmas.{recorded_touch}
use Rattle.spv_journal.proofs.recorded.Recorded.touch.Goals as goal

pub returns : goal.returns
returns c =
    let j = c.self.inside.journal in
    recorded_touch c.touch.result j c.self.inside.whole c.args.self.now c.self.view_is c.requires c.self.invariant c.touch.ensures
