use Rattle.std.proofs.Common.{arith}
use Rattle.spv_cfg.proofs.Orders.{pair_step}
use Rattle.spv_index.proofs.Exports.{drop_back}
use Rattle.spv_cfg.proofs.edges.pairs_of.Goals as goal

pub back-preserved : goal.back-preserved
back-preserved c = record {
  small = omega arith;
  found = λ target source. rw (drop_back c.args.edges.now c.back.i (0, 0) c.back-test.true c.back.invariant.small, ← c.back.invariant.found target source)
      (pair_step _ _ _ _ target source (c.in_ok-insert.ensures.updates.0 (target, source)));
}
