use Rattle.std.proofs.Common.{◌∙◌, sym}
use Rattle.spv_index.specs.Definitions.{has_result}
use Rattle.spv_index.proofs.IndexLemmas.{no_number, number_within, numbered_by, small_id, some_number}
use Rattle.spv_index.proofs.index.Index.number_of.Goals as goal

pub returns-then-not-is_id-clause-number : goal.returns-then-not-is_id-clause-number
returns-then-not-is_id-clause-number c = no_number _ c.args.id (sym c.if-not-is_id.ensures)

pub returns-in_err-get-clause-number : goal.returns-in_err-get-clause-number
returns-in_err-get-clause-number c =
    c.from_residual.ensures ∙ sym c.in_err-get.was ∙ numbered_by _ _ c.self.view_is (has_result c.args.id) _
    (c.get.ensures ∙ c.self.invariant.definitions_are c.args.id (small_id c.args.id (sym c.if-not-is_id.ensures)))
    ∙ some_number _ c.args.id (sym c.if-not-is_id.ensures)

pub returns-clause-number : goal.returns-clause-number
returns-clause-number c =
    sym c.in_ok-get.was ∙ numbered_by _ _ c.self.view_is (has_result c.args.id) _
    (c.get.ensures ∙ c.self.invariant.definitions_are c.args.id (small_id c.args.id (sym c.if-not-is_id.ensures)))
    ∙ some_number _ c.args.id (sym c.if-not-is_id.ensures)

pub returns-clause-within : goal.returns-clause-within
returns-clause-within c =
    number_within (has_result c.args.id) _ _
    (sym c.in_ok-get.was ∙ numbered_by _ _ c.self.view_is (has_result c.args.id) _
    (c.get.ensures ∙ c.self.invariant.definitions_are c.args.id (small_id c.args.id (sym c.if-not-is_id.ensures))))
