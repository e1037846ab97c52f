use Rattle.std.proofs.Common.{◌≡◌, ◌∙◌, ◌+◌, ap, refl, subst}
use Rattle.std.proofs.lemmas.Result.{on_ok_weaker}
use Rattle.spv_valid.specs.Acceptance.{Accepted}
use Rattle.spv_journal.specs.Held.{Records}
use Rattle.spv_state.specs.Events.{pass}
use Rattle.spv_state.specs.State.{State, on_frame, with_pc}
use Rattle.spv_machine.specs.Step.{next_of, to_next}
use Rattle.spv_machine.specs.Weights.{events_before}
use Rattle.spv_machine.proofs.StatusSteps.{moved_is, reached_frame, reached_inside}
use Rattle.spv_machine.proofs.ReachedLemmas.{word_is}
use Rattle.spv_machine.proofs.applying.go_on.Goals as goal

pub come_to-requires-clause-inside : goal.come_to-requires-clause-inside
come_to-requires-clause-inside c = reached_inside c.args.m.now c.args.recorded.now.state c.args.inv c.args.inst.now c.requires.reached

pub come_to-requires-clause-frame : goal.come_to-requires-clause-frame
come_to-requires-clause-frame c = reached_frame c.args.m.now c.args.recorded.now.state c.args.inv c.args.inst.now c.args.m.now.accepted refl c.requires.reached

pub returns : goal.returns
returns c =
    let a = c.args.m.now.accepted in
    let i = c.args.inv in
    let s = c.args.recorded.now.state in
    let r = c.requires.reached in
    let word = word_is c.args.m.now s i c.args.inst.now r in
    let next = c.word_behind-word.ensures ∙ ap (λ (x : Accepted). next_of x c.args.inst.now.word) c.accepted.ensures.module ∙ ap (next_of a) word in
    let moved : on_frame i (with_pc c.word_behind-word.result) s ≡ to_next a i s = moved_is a s i c.word_behind-word.result r.frame r.top next in
    record {
      ok = on_ok_weaker c.come_to.result (λ come. come ∙ ap (pass a i) moved) c.come_to.ensures.ok;
      recorded = subst (λ (x : State). Records (events_before a (pass a i x) i + 1) c.args.recorded.now c.come_to.new.recorded) moved c.come_to.ensures.recorded;
    }
