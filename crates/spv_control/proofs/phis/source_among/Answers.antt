use Rattle.std.proofs.Common.{arith}
use Rattle.std.proofs.lemmas.Grind.{common_steps}
use Rattle.spv_control.proofs.phis.source_among.Goals as goal

pub pairs-preserved : goal.pairs-preserved
pairs-preserved c = grind (arith, common_steps)
