use Rattle.std.proofs.Common.{ap, arith, rules}
use Rattle.spv_fit.proofs.GivenLemmas.{back_more, none_given}
use Rattle.spv_fit.proofs.given.given_by_pairs.Goals as goal

pub back-init : goal.back-init
back-init c = record {
  within = omega arith;
  found = λ set binding. rw (none_given c.args.buffers.now set binding) (search rules);
}

pub back-preserved : goal.back-preserved
back-preserved c = record {
  within = omega (arith, c.back.invariant.within);
  found = λ set binding. back_more c.args.buffers.now c.back.n c.index-buffers-n.result set binding (record { line = c.index-buffers-n.result.line; bytes = c.bytes_in.result }) _ _ (omega (arith, c.back-test.true)) c.back.invariant.within c.index-buffers-n.is
      (ap (λ n. record { line = c.index-buffers-n.result.line; bytes = n }) c.bytes_in.ensures) (c.in_ok-insert.ensures.updates.0 (set, binding)) (c.back.invariant.found set binding);
}
