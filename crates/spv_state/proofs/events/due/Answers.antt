use Rattle.std.proofs.Common.{arith}
use Rattle.std.proofs.lemmas.Grind.{common_steps}
use Rattle.spv_state.proofs.events.due.Goals as goal

pub loop-capture-preserved : goal.loop-capture-preserved
loop-capture-preserved c = grind (arith, common_steps)
