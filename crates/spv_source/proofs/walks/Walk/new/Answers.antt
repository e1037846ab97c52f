use Rattle.spv_source.proofs.WalkLemmas.{begins}
use Rattle.spv_source.proofs.walks.Walk.new.Goals as goal

pub returns : goal.returns
returns c = λ left. begins c.args.line c.new.result.items c.new-2.result.items left c.new.ensures.items c.new-2.ensures.items
