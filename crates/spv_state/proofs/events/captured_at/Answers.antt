use Rattle.std.proofs.Common.{sym}
use Rattle.spv_state.proofs.events.captured_at.Goals as goal

pub due-requires-clause-frame : goal.due-requires-clause-frame
due-requires-clause-frame c = c.requires.frame c.in-Some.frame.now (sym c.in-Some.ensures)
