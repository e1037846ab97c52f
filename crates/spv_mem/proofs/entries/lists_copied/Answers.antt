use Rattle.std.proofs.Common.{arith}
use Rattle.std.proofs.lemmas.Grind.{common_steps}
use Rattle.spv_mem.proofs.entries.lists_copied.Goals as goal

pub loop-roots-preserved : goal.loop-roots-preserved
loop-roots-preserved c = grind (arith, common_steps)
