use Rattle.std.proofs.Common.{arith}
use Rattle.std.proofs.lemmas.Grind.{common_steps}
use Rattle.spv_index.proofs.table.put_all.Goals as goal

pub back-preserved : goal.back-preserved
back-preserved g c = grind (arith, common_steps)
