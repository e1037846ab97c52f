use Rattle.spv_journal.proofs.TouchLemmas.{popped_more}
use Rattle.spv_journal.proofs.touches.Touch.with_popped.Goals as goal

pub returns-in-Same : goal.returns-in-Same
returns-in-Same c = popped_more c.args.self c.args.entry.now c.requires c.in-Same.is
