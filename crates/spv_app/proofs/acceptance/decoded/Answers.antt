use Rattle.spv_words.specs.Header.{HasHeader}
use Rattle.spv_app.proofs.Readings.{read_decoded}
use Rattle.spv_app.proofs.acceptance.decoded.Goals as goal

pub unreachable-requires : goal.unreachable-requires
unreachable-requires c =
    let header : HasHeader c.args.list.now.items = rw c.items-words.ensures.words at c.items-words.ensures.header in
    c.in-None.ensures
    (read_decoded c.args.list.now.items c.in_ok-raws.raws.items c.in_ok-insts.insts.items _ header.long header.short c.in_ok-raws.ensures.cut
    (rw c.deref.ensures.value at c.in_ok-insts.ensures.words) c.bound.ensures.high)
