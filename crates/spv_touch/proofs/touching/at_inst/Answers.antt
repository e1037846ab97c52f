use Rattle.std.proofs.Common.{subst}
use Rattle.spv_sites.specs.Sites.{Site}
use Rattle.spv_touch.specs.Seen.{Tells, seen}
use Rattle.spv_touch.proofs.ReadyLemmas.{ready_event}
use Rattle.spv_touch.proofs.touching.at_inst.Goals as goal

pub returns : goal.returns
returns c =
    ready_event c.args.m.now c.args.whole.now c.args.inv c.args.frame.now c.args.inst.now c.in_ok-event.event c.requires.ready c.requires.frame c.requires.inst
    (subst (λ (x : Site). Tells x.inv (seen x) c.in_ok-event.event) c.of-site.ensures c.in_ok-event.ensures)
