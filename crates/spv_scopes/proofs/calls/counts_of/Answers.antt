use Rattle.std.proofs.Common.{◌≡◌, length, arith}
use Rattle.spv_scopes.proofs.CountLemmas.{all_counted}
use Rattle.spv_scopes.proofs.calls.counts_of.Goals as goal

pub returns : goal.returns
returns c =
    let all : length c.args.calls.now ≡ c.loop-n.n = omega arith in
    all_counted c.args.calls.now c.loop-n.counts.items c.loop-n.n c.loop-n.invariant.few all c.loop-n.invariant.counted
