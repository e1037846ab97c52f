use Rattle.std.proofs.Common.{arith, rules}
use Rattle.spv_initial.proofs.BufferLemmas.{back_number, no_number}
use Rattle.spv_initial.proofs.values.buffer_numbers.Goals as goal

pub back-init : goal.back-init
back-init c = record {
  within = omega arith;
  found = λ set binding. no_number c.args.buffers.now set binding _ (search rules);
}

pub back-preserved : goal.back-preserved
back-preserved c = record {
  within = omega (arith, c.back.invariant.within);
  found = λ set binding. back_number c.args.buffers.now c.back.n c.index-buffers-n.result set binding _ _ (omega (arith, c.back-test.true)) c.back.invariant.within c.index-buffers-n.is
      (c.in_ok-insert.ensures.updates.0 (set, binding)) (c.back.invariant.found set binding);
}
