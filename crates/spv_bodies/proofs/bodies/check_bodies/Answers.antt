use Rattle.spv_bodies.proofs.BodyLemmas.{bodies_are}
use Rattle.spv_bodies.proofs.bodies.check_bodies.Goals as goal

pub returns : goal.returns
returns c = bodies_are c.args.types.now c.args.consts.now c.args.index.now.insts c.insts.result.now c.functions_start.result c.of-context.result c.check_all.result c.of-context.ensures c.insts.ensures.insts c.functions_start.ensures.within c.functions_start.ensures.before c.check_all.ensures
