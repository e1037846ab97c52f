use Rattle.std.proofs.Common.{arith}
use Rattle.std.proofs.lemmas.Grind.{common_steps}
use Rattle.spv_bodies.proofs.composites.fill.Goals as goal

pub loop-constituent-preserved : goal.loop-constituent-preserved
loop-constituent-preserved c = grind (arith, common_steps)
