use Rattle.std.proofs.Common.{◌<◌, ◌+◌, ◌-◌, ◌∙◌, ℕ, List, length, get_or, ap, arith, rules}
use Rattle.std.proofs.Math.ListN.{length-set}
use Rattle.std.proofs.lemmas.Grind.{common_steps}
use Rattle.std.proofs.lemmas.List.{drop_all, get_or-replicate, get_or_read}
use Rattle.spv_base.specs.Saturation.{saturated}
use Rattle.spv_valid.proofs.StackLemmas.{weight-nil, weights_more}
use Rattle.spv_valid.proofs.stack.weights_of.Goals as goal

pub back-init : goal.back-init
back-init c = record {
  small = omega arith;
  len = grind (arith, common_steps, c.in_ok-weights.ensures.items);
  weights = λ f lt. rw (drop_all (length c.args.kept.now) c.args.kept.now (omega arith), weight-nil)
      (ap (λ (xs : List ℕ). get_or xs f 0) (c.in_ok-weights.ensures.items_if_clones_equal (search rules)) ∙ get_or-replicate {A = ℕ} c.args.count f 0 0 lt);
}

pub back-preserved : goal.back-preserved
back-preserved c =
    let kept = c.args.kept.now in
    let place : c.back.i - 1 < length kept = omega arith in
    let bound = c.requires (c.back.i - 1) (0, 0) place in
    let inside : (get_or kept (c.back.i - 1) (0, 0)).0 < length c.back.weights.items = rw c.back.invariant.len bound in
    record {
      small = omega arith;
      len = simp length-set c.back.invariant.len;
      weights = weights_more kept c.back.weights.items c.back.i c.saturating_add-cells.result c.args.count c.back-test.true c.back.invariant.small c.back.invariant.len
          c.requires c.back.invariant.weights
          (c.saturating_add-cells.ensures ∙ ap (λ (z : ℕ). saturated (z + (get_or kept (c.back.i - 1) (0, 0)).1)) (get_or_read c.back.weights.items _ c.index.result.now inside c.index.ensures 0));
    }
