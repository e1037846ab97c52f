use Rattle.std.proofs.Common.{◌≡◌, ◌-◌, ℕ, eqb, get_or, drop, arith}
use Rattle.std.proofs.lemmas.Grind.{common_steps}
use Rattle.std.specs.List.{count_by}
use Rattle.spv_cfg.proofs.Orders.{count_step}
use Rattle.spv_index.proofs.Exports.{drop_back}
use Rattle.spv_cfg.proofs.edges.counts_of.Goals as goal

pub back-preserved : goal.back-preserved
back-preserved c =
    let edges = c.args.edges.now in
    let edge : ℕ × ℕ = get_or edges (c.back.i - 1) (0, 0) in
    let before = c.back.invariant.counted edge.0 in
    let count : c.unwrap_or-count.result ≡ count_by (λ e. eqb e.0 edge.0) (drop c.back.i edges)
    = grind (arith, common_steps, before) in
    record {
      small = omega arith;
      counted = λ target. rw (drop_back edges c.back.i (0, 0) c.back-test.true c.back.invariant.small)
          (count_step (drop c.back.i edges) edge.0 edge.1 target c.unwrap_or-count.result _ _ (c.in_ok-insert.ensures.updates.0 target) (c.back.invariant.counted target) count);
    }
