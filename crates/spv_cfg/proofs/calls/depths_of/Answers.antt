use Rattle.spv_cfg.proofs.ChainLemmas.{depths_more, depths_all}
use Rattle.spv_cfg.proofs.calls.depths_of.Goals as goal

pub loop-k-preserved : goal.loop-k-preserved
loop-k-preserved c =
    rw c.in_ok-push.ensures.items (depths_more c.loop-k.depths.items _ c.args.functions.now c.args.lengths.now c.loop-k.k c.loop-k-test.true c.requires c.loop-k.invariant)

pub returns : goal.returns
returns c = rw (depths_all c.loop-k.depths.items _ c.args.functions.now c.args.lengths.now c.loop-k.k c.loop-k-test.false c.loop-k.invariant) at c.new.ensures
