use Rattle.std.proofs.Common.{arith}
use Rattle.std.proofs.lemmas.Grind.{common_steps}
use Rattle.spv_dbg.proofs.op_sources.add_op_sources.Goals as goal

pub loop-insts-preserved : goal.loop-insts-preserved
loop-insts-preserved c = grind (arith, common_steps)
