use Rattle.std.proofs.Common.{sym}
use Rattle.spv_touch.proofs.ReadyLemmas.{idle_event, no_frame}
use Rattle.spv_touch.proofs.touching.ready.Goals as goal

pub returns-in-None : goal.returns-in-None
returns-in-None c =
    idle_event c.args.m.now c.args.whole.now c.args.inv c.untouching.result (no_frame c.args.m.now c.args.whole.now c.args.inv c.requires.ready (sym c.in-None.ensures)) c.untouching.ensures
