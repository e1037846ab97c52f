use Rattle.spv_ops.proofs.InstLaws.{again}
use Rattle.spv_ops.proofs.encoding.encode.Goals as goal

pub returns-clause-again : goal.returns-clause-again
returns-clause-again c = again c.args.i.now c.raw_of.result c.requires c.raw_of.ensures
