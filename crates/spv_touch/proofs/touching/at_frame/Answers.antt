use Rattle.std.proofs.Common.{◌≡◌, ◌∙◌, None, ap, sym}
use Rattle.spv_index.specs.Definitions.{at}
use Rattle.spv_valid.specs.Acceptance.{Accepted}
use Rattle.spv_touch.proofs.ReadyLemmas.{idle_event, no_inst}
use Rattle.spv_touch.proofs.touching.at_frame.Goals as goal

pub returns-in-None : goal.returns-in-None
returns-in-None c =
    let p = c.args.m.now in
    let f = c.args.frame.now in
    let none : at p.accepted.insts f.pc ≡ None = sym (c.in-None.ensures ∙ ap (λ (x : Accepted). at x.insts c.pc.result) c.accepted-accepted.ensures.module ∙ ap (at p.accepted.insts) c.pc.ensures) in
    idle_event p c.args.whole.now c.args.inv c.untouching.result (no_inst p c.args.whole.now c.args.inv f c.requires.ready c.requires.frame none) c.untouching.ensures
