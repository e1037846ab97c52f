use Rattle.std.proofs.Common.{◌∙◌}
use Rattle.spv_index.specs.Definitions.{names_it}
use Rattle.spv_index.proofs.IndexLemmas.{found_by, small_id, some_id}
use Rattle.spv_index.proofs.index.Index.naming.Goals as goal

pub returns : goal.returns
returns c =
    found_by _ _ c.self.view_is (names_it c.args.id) _ _ _ c.insts.ensures.insts c.inst_with.ensures
    (c.get.ensures ∙ c.self.invariant.names_are c.args.id (some_id c.args.id c.requires) (small_id c.args.id c.requires))
