use Rattle.std.proofs.Common.{◌≡◌, ◌∙◌, ◌+◌, ◌++◌, ap, arith}
use Rattle.spv_probe.specs.Kits.{tests_of}
use Rattle.spv_session.specs.Reply.{tally_reply}
use Rattle.spv_session.proofs.ReplyLemmas.{text_more_from}
use Rattle.spv_session.proofs.session.Core.push_tallies.Goals as goal

pub loop-place-preserved : goal.loop-place-preserved
loop-place-preserved g c =
    let tests = tests_of (λ b. (goal.Probe-dyn g (b.vtable, b.value)).test b.value) c.args.kit.now.boxes.items in
    let on : c.loop-place.place + 1 ≡ 1 + c.loop-place.place = omega arith in
    c.in_ok-push_tally_of.ensures c.args.self.now.view c.requires
    ∙ ap (λ n. c.loop-place.text.items ++ tally_reply tests c.args.self.now.view n) on
    ∙ text_more_from (tally_reply tests c.args.self.now.view) c.args.text.now.items c.loop-place.text.items 1 c.loop-place.place c.loop-place.invariant
