use Rattle.std.proofs.Common.{◌∙◌}
use Rattle.spv_index.specs.Definitions.{at, stands_at}
use Rattle.spv_index.proofs.IndexLemmas.{found_by}
use Rattle.spv_index.proofs.index.Index.at.Goals as goal

pub returns : goal.returns
unfolding at
returns c =
    found_by _ _ c.self.view_is (stands_at c.args.word) _ _ _ c.insts.ensures.insts c.inst_with.ensures
    (c.get.ensures ∙ c.self.invariant.words_are c.args.word)
