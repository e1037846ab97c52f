use Rattle.std.proofs.Common.{◌<◌, ◌-◌, ◌∙◌, ℕ, length, get_or, max, ap, arith}
use Rattle.std.proofs.Math.ListN.{length-set}
use Rattle.std.proofs.lemmas.List.{get_or_read}
use Rattle.spv_cfg.proofs.ChainLemmas.{called_more}
use Rattle.spv_cfg.proofs.chains.most_called.Goals as goal

pub back-preserved : goal.back-preserved
back-preserved c =
    let calls = c.args.calls.now in
    let place : c.back.i - 1 < length calls = omega arith in
    let bound = c.requires (c.back.i - 1) (0, 0) place in
    let inside : (get_or calls (c.back.i - 1) (0, 0)).0 < length c.back.called.items = rw c.back.invariant.len bound.0 in
    record {
      small = omega arith;
      len = simp length-set c.back.invariant.len;
      called = called_more calls c.args.heaviest.now c.back.called.items c.back.i c.max-most.result c.back-test.true c.back.invariant.small c.back.invariant.len
          c.requires c.back.invariant.called
          (c.max-most.ensures ∙ ap (λ (z : ℕ). max z (get_or c.args.heaviest.now (get_or calls (c.back.i - 1) (0, 0)).1 0)) (get_or_read c.back.called.items _ c.index.result.now inside c.index.ensures 0));
    }
