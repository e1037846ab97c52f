use Rattle.std.proofs.Common.{arith}
use Rattle.std.proofs.lemmas.Grind.{common_steps}
use Rattle.spv_state.proofs.undoing.stacks_copied.Goals as goal

pub loop-stack-preserved : goal.loop-stack-preserved
loop-stack-preserved c = grind (arith, common_steps)
