use Rattle.std.proofs.Common.{◌∙◌}
use Rattle.spv_index.specs.Definitions.{decorates, decorating}
use Rattle.spv_index.proofs.IndexLemmas.{found_by}
use Rattle.spv_index.proofs.index.Index.decorating.Goals as goal

pub returns : goal.returns
unfolding decorating
returns c =
    found_by _ _ c.self.view_is (decorates c.args.id c.args.kind) _ _ _ c.insts.ensures.insts c.inst_with.ensures
    (c.copied.ensures ∙ c.get.ensures.value ∙ c.self.invariant.decorations_are c.args.id c.args.kind)
