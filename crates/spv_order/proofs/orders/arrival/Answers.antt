use Rattle.std.proofs.Common.{◌<◌, length, refl, arith, below_more}
use Rattle.std.proofs.lemmas.Option.{slice_get_read}
use Rattle.spv_order.proofs.OrderLemmas.{none_arrives, one_arrives}
use Rattle.spv_order.proofs.orders.arrival.Goals as goal

pub returns-then-event : goal.returns-then-event
returns-then-event c =
    let xs = c.args.events.now in
    let k = c.loop-k.k in
    let e = c.index-events-k.result in
    let within : k < length xs = omega arith in
    let at = slice_get_read xs (length xs) k e refl within c.index-events-k.is in
    (omega arith, c.loop-k.invariant, λ l. one_arrives xs k e at c.if-event.true)

pub loop-k-preserved : goal.loop-k-preserved
loop-k-preserved c =
    let xs = c.args.events.now in
    let k = c.loop-k.k in
    let e = c.index-events-k.result in
    let within : k < length xs = omega arith in
    below_more _ _ c.loop-k.invariant (none_arrives xs k e (slice_get_read xs (length xs) k e refl within c.index-events-k.is) c.if-event.false)

pub returns : goal.returns
returns c = (omega arith, λ k l. c.loop-k.invariant k (omega (arith, l, c.loop-k-test.false)), λ l. absurd (omega (arith, l)))
