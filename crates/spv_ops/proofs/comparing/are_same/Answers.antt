use Rattle.std.proofs.Common.{arith}
use Rattle.std.proofs.lemmas.Grind.{common_steps}
use Rattle.spv_ops.proofs.comparing.are_same.Goals as goal

pub loop-rest_a-preserved : goal.loop-rest_a-preserved
loop-rest_a-preserved c = grind (arith, common_steps)
