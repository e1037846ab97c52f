use Rattle.std.proofs.Common.{◌≡◌, ◌+◌, arith}
use Rattle.std.specs.Prelude.{reverse}
use Rattle.spv_scopes.specs.Calls.{count_in}
use Rattle.spv_scopes.proofs.CountLemmas.{counted_one}
use Rattle.spv_scopes.proofs.calls.count_from.Goals as goal

pub returns-in-Some-checked_add : goal.returns-in-Some-checked_add
returns-in-Some-checked_add c =
    let around : c.count_in.result ≡ count_in c.args.counts.now c.in-Some.linked.call = c.count_in.ensures in
    let more : c.in-Some-checked_add.count ≡ count_in c.args.counts.now c.in-Some.linked.call + 1 = omega (arith, c.in-Some-checked_add.ensures) in
    counted_one (reverse c.args.calls.now) c.args.counts.now c.args.n c.in-Some-checked_add.count c.in-Some.linked c.requires c.in-Some.ensures.smaller c.in-Some.ensures.calls more
