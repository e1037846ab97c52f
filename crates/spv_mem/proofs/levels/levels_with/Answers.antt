use Rattle.std.proofs.Common.{arith}
use Rattle.std.proofs.lemmas.Grind.{common_steps}
use Rattle.spv_mem.proofs.levels.levels_with.Goals as goal

pub loop-locals-preserved : goal.loop-locals-preserved
loop-locals-preserved c = grind (arith, common_steps)
