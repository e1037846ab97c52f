use Rattle.spv_cfg.proofs.ChainLemmas.{too_deep_more, too_deep_all}
use Rattle.spv_cfg.proofs.calls.call_breach.Goals as goal

pub loop-k-preserved : goal.loop-k-preserved
loop-k-preserved c =
    too_deep_more c.loop-k.least c.over-next.result _ _ c.args.functions.now c.args.lengths.now c.loop-k.k c.loop-k-test.true c.requires
    c.over-next.ensures c.lower-least.ensures c.loop-k.invariant

pub returns : goal.returns
returns c = too_deep_all c.loop-k.least _ c.args.functions.now c.args.lengths.now c.loop-k.k c.loop-k-test.false c.loop-k.invariant
