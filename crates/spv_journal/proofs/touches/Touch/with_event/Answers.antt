use Rattle.std.proofs.Common.{arith}
use Rattle.spv_journal.proofs.TouchLemmas.{event_more}
use Rattle.spv_journal.proofs.touches.Touch.with_event.Goals as goal

pub returns-in_ok-checked_add-in-Same : goal.returns-in_ok-checked_add-in-Same
returns-in_ok-checked_add-in-Same c = event_more c.args.self c.in_ok-checked_add-in-Same.field-0 c.in-Same.is (omega arith)
