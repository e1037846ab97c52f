use Rattle.std.proofs.Common.{arith}
use Rattle.std.proofs.lemmas.Grind.{common_steps}
use Rattle.spv_dbg.proofs.forming.fragment_is_last.Goals as goal

pub loop-ids-preserved : goal.loop-ids-preserved
loop-ids-preserved c = grind (arith, common_steps)
