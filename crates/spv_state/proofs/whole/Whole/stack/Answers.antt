use Rattle.spv_state.proofs.ChangeLemmas.{inside, one_bounded}
use Rattle.spv_state.proofs.whole.Whole.stack.Goals as goal

pub returns-clause-bounded : goal.returns-clause-bounded
returns-clause-bounded c = one_bounded c.self.inside.stacks.items c.args.i c.index.result.now (inside c.self.view_is c.requires) c.index.ensures c.self.invariant.1
