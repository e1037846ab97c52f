use Rattle.std.proofs.Common.{◌≡◌, ◌-◌, not, eqb, get_or, drop, refl, ap, ◌∙◌, arith}
use Rattle.std.proofs.lemmas.Grind.{common_steps}
use Rattle.std.specs.List.{list_any}
use Rattle.spv_index.proofs.Exports.{drop_back}
use Rattle.spv_cfg.proofs.distinct.are_distinct.Goals as goal

pub back-preserved-then-is_new : goal.back-preserved-then-is_new
back-preserved-then-is_new c =
    let xs = c.args.numbers.now in
    let step = drop_back xs c.back.i 0 c.back-test.true c.back.invariant.small in
    let is_new : c.in_ok-is_new.is_new ≡ not (list_any (λ n. eqb n (get_or xs (c.back.i - 1) 0)) (drop c.back.i xs))
    = c.in_ok-is_new.ensures.added ∙ ap not (c.back.invariant.seen (get_or xs (c.back.i - 1) 0)) in
    record {
      small = omega arith;
      seen = λ k. rw step (grind (arith, common_steps, c.in_ok-is_new.ensures.updates.0 k, c.back.invariant.seen k));
      distinct = rw (step, ← is_new, c.if-is_new.true) c.back.invariant.distinct;
    }

pub back-preserved : goal.back-preserved
back-preserved c =
    let xs = c.args.numbers.now in
    let step = drop_back xs c.back.i 0 c.back-test.true c.back.invariant.small in
    let is_new : c.in_ok-is_new.is_new ≡ not (list_any (λ n. eqb n (get_or xs (c.back.i - 1) 0)) (drop c.back.i xs))
    = c.in_ok-is_new.ensures.added ∙ ap not (c.back.invariant.seen (get_or xs (c.back.i - 1) 0)) in
    record {
      small = omega arith;
      seen = λ k. rw step (grind (arith, common_steps, c.in_ok-is_new.ensures.updates.0 k, c.back.invariant.seen k));
      distinct = rw (step, ← is_new, c.if-is_new.false) refl;
    }
