use Rattle.std.proofs.Common.{◌≡◌, Some, slice_get}
use Rattle.spv_journal.proofs.TouchLemmas.{beside_touch}
use Rattle.spv_journal.proofs.rings.touch_beside.Goals as goal

pub loop-number-preserved : goal.loop-number-preserved
loop-number-preserved c = λ es is.
    let items = c.args.entries.now.items in
    let at : slice_get items c.loop-number.number ≡ Some c.in_ok-get.field-0.now = let e = c.get.ensures in let f = c.in_ok-get.ensures in cc in
    beside_touch c.loop-number.touch c.in_ok-touch.touch es items c.loop-number.number c.in_ok-get.field-0.now at c.in_ok-touch.ensures (c.loop-number.invariant es is)
