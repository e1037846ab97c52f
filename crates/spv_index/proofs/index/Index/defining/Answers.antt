use Rattle.std.proofs.Common.{◌∙◌, sym}
use Rattle.spv_index.specs.Definitions.{has_result}
use Rattle.spv_index.proofs.IndexLemmas.{found_by, no_definition, small_id, some_definition}
use Rattle.spv_index.proofs.index.Index.defining.Goals as goal

pub returns-then-not-is_id : goal.returns-then-not-is_id
returns-then-not-is_id c = no_definition _ c.args.id (sym c.if-not-is_id.ensures)

pub returns : goal.returns
returns c =
    found_by _ _ c.self.view_is (has_result c.args.id) _ _ _ c.insts.ensures.insts c.inst_with.ensures
    (c.get.ensures ∙ c.self.invariant.definitions_are c.args.id (small_id c.args.id (sym c.if-not-is_id.ensures)))
    ∙ some_definition _ c.args.id (sym c.if-not-is_id.ensures)
