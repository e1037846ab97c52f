use Rattle.std.proofs.Common.{arith}
use Rattle.std.proofs.lemmas.Grind.{common_steps}
use Rattle.spv_computing.proofs.computing_composites.parts.Goals as goal

pub loop-datum-preserved : goal.loop-datum-preserved
loop-datum-preserved c = grind (arith, common_steps)
