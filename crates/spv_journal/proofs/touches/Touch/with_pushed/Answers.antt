use Rattle.spv_journal.proofs.TouchLemmas.{pushed_more}
use Rattle.spv_journal.proofs.touches.Touch.with_pushed.Goals as goal

pub returns-in-Same : goal.returns-in-Same
returns-in-Same c = pushed_more c.args.self c.in-Same.is
