use Rattle.std.proofs.Common.{arith}
use Rattle.std.proofs.lemmas.Grind.{common_steps}
use Rattle.spv_cfg.proofs.executables.followers_of.Goals as goal

pub forth-preserved : goal.forth-preserved
forth-preserved c = grind (arith, common_steps)
