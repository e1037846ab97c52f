use Rattle.spv_source.proofs.WalkLemmas.{gone}
use Rattle.spv_source.proofs.walks.Walk.go_by.Goals as goal

pub returns : goal.returns
returns c = λ bytes left e. gone c.args.self.now c.args.ends c.clear.new.self.items bytes left e c.requires c.clear.ensures.items
