use Rattle.std.proofs.Common.{◌≡◌, ◌-◌, true, false, not, eqb, get_or, drop, refl, sym, ap, ◌∙◌, arith}
use Rattle.std.proofs.lemmas.Bool.{not-true, not-false}
use Rattle.std.proofs.lemmas.Grind.{common_steps}
use Rattle.std.proofs.lemmas.List.{append-nil}
use Rattle.std.specs.List.{list_any}
use Rattle.spv_index.proofs.Exports.{drop_back}
use Rattle.spv_cfg.proofs.distinct.distinct.Goals as goal

pub back-preserved-in-Continue-branch-2 : goal.back-preserved-in-Continue-branch-2
back-preserved-in-Continue-branch-2 c =
    let xs = c.args.numbers.now in
    let step = drop_back xs c.back.i 0 c.back-test.true c.back.invariant.small in
    let is_new : c.in_ok-insert.field-0 ≡ not (list_any (λ n. eqb n (get_or xs (c.back.i - 1) 0)) (drop c.back.i xs))
    = c.in_ok-insert.ensures.added ∙ ap not (c.back.invariant.seen (get_or xs (c.back.i - 1) 0)) in
    let absent : list_any (λ n. eqb n (get_or xs (c.back.i - 1) 0)) (drop c.back.i xs) ≡ false = not-true _ (sym is_new ∙ c.if-branch.true) in
    record {
      small = omega arith;
      seen = λ k. rw step (grind (arith, common_steps, c.in_ok-insert.ensures.updates.0 k, c.back.invariant.seen k));
      distinct = rw (c.in_ok-push.ensures.items, step, absent, c.back.invariant.distinct) refl;
    }

pub back-preserved : goal.back-preserved
back-preserved c =
    let xs = c.args.numbers.now in
    let step = drop_back xs c.back.i 0 c.back-test.true c.back.invariant.small in
    let is_new : c.in_ok-insert.field-0 ≡ not (list_any (λ n. eqb n (get_or xs (c.back.i - 1) 0)) (drop c.back.i xs))
    = c.in_ok-insert.ensures.added ∙ ap not (c.back.invariant.seen (get_or xs (c.back.i - 1) 0)) in
    let present : list_any (λ n. eqb n (get_or xs (c.back.i - 1) 0)) (drop c.back.i xs) ≡ true = not-false _ (sym is_new ∙ c.if-branch.false) in
    record {
      small = omega arith;
      seen = λ k. rw step (grind (arith, common_steps, c.in_ok-insert.ensures.updates.0 k, c.back.invariant.seen k));
      distinct = rw (step, present) (c.back.invariant.distinct ∙ sym (append-nil _));
    }
