use Rattle.std.proofs.Common.{rules, tests, ap, ◌∙◌}
use Rattle.std.specs.List.{list_all}
use Rattle.std.proofs.lemmas.Iterator.{YieldsList-from_slice}
use Rattle.std.proofs.lemmas.Iterator.Search.{all_from_yields_List}
use Rattle.spv_alu.specs.Results.{truth, defined_if}
use Rattle.spv_alu.proofs.vector_op.VectorOp.apply.Goals as goal

pub returns : goal.returns
returns c =
    let all = all_from_yields_List (λ lane. lane.defined) _ _ c.all.result c.all.ensures.ran (YieldsList-from_slice c.args.lanes.now (cc)) (λ x b q k. search (rules, tests)) in
    c.defined_if.ensures
    ∙ (ap (λ b. defined_if b c.truth.result) all ∙ ap (λ l. defined_if (list_all (λ lane. lane.defined) c.args.lanes.now) l) (c.truth.ensures ∙ ap truth c.holds.ensures))
