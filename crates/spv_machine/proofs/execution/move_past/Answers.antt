use Rattle.std.proofs.Common.{◌≡◌, ◌∙◌, ◌+◌, ℕ, Option, ap, arith, subst, sym}
use Rattle.std.proofs.lemmas.Result.{on_ok_weaker}
use Rattle.std.specs.Option.{IsSomeAnd}
use Rattle.spv_base.specs.Entries.{reads}
use Rattle.spv_frame.specs.Frames.{Held as Frame}
use Rattle.spv_statuses.specs.declared.invocations.Status.TheVariants.{Passed, Ready}
use Rattle.spv_valid.specs.Acceptance.{Accepted}
use Rattle.spv_journal.specs.Held.{Records}
use Rattle.spv_state.specs.Events.{pass}
use Rattle.spv_state.specs.Sound.{IsSoundFrame}
use Rattle.spv_state.specs.Program.{Program}
use Rattle.spv_state.specs.State.{State, on_frame, set_status, top_of, with_pc}
use Rattle.spv_state.proofs.Exports.{IsKnown, known_as}
use Rattle.spv_machine.specs.Step.{go_on, next_of, to_next}
use Rattle.spv_machine.specs.Weights.{events_before}
use Rattle.spv_machine.proofs.StatusSteps.{HasTop, barrier_next, has_top, moved_is}
use Rattle.spv_machine.proofs.Recording.{records_more, records_on}
use Rattle.spv_machine.proofs.execution.move_past.Goals as goal

-- the frame of a Passed invocation moves on from the barrier
past : (p : Program) (s : State) (i pc word : ℕ) → HasTop p s i Passed → IsSomeAnd (top_of s i) (λ (f : Frame). f.pc ≡ pc) → word ≡ next_of p.accepted pc → on_frame i (with_pc word) s ≡ to_next p.accepted i s
past p s i pc word h stands is =
    let here : h.frame.pc ≡ pc = subst (λ (o : Option Frame). IsSomeAnd o (λ (f : Frame). f.pc ≡ pc)) h.top stands in
    moved_is p.accepted s i word h.frame h.top (is ∙ ap (next_of p.accepted) (sym here))

pub word_behind-requires : goal.word_behind-requires
word_behind-requires c =
    let p = c.args.m.now in
    let s = c.args.recorded.now.state in
    let i = c.args.inv in
    let known : IsKnown p.accepted = known_as p.accepted c.accepted-accepted.result.now c.accepted-accepted.ensures.module c.insts-insts.ensures.accepted c.insts-insts.ensures.valid in
    let h : HasTop p s i Passed = has_top p s i Passed c.requires.sound c.requires.inv c.requires.passed (λ e. cc) in
    let here : h.frame.pc ≡ c.args.pc = subst (λ (o : Option Frame). IsSomeAnd o (λ (f : Frame). f.pc ≡ c.args.pc)) h.top c.requires.stands in
    let next = barrier_next p s i h.frame known h h.top in
    (next.0, ap (λ (x : Accepted). reads c.args.pc x.flow.nexts) c.accepted-accepted.ensures.module ∙ ap (λ (n : ℕ). reads n p.accepted.flow.nexts) (sym here) ∙ next.1)

pub come_to-requires-clause-frame : goal.come_to-requires-clause-frame
come_to-requires-clause-frame c =
    let p = c.args.m.now in
    let h : HasTop p c.args.recorded.now.state c.args.inv Passed = has_top p c.args.recorded.now.state c.args.inv Passed c.requires.sound c.requires.inv c.requires.passed (λ e. cc) in
    subst (λ (o : Option Frame). IsSomeAnd o (IsSoundFrame p.accepted)) (sym h.top) h.sound

pub returns : goal.returns
returns c =
    let p = c.args.m.now in
    let a = p.accepted in
    let s = c.args.recorded.now.state in
    let i = c.args.inv in
    let h : HasTop p s i Passed = has_top p s i Passed c.requires.sound c.requires.inv c.requires.passed (λ e. cc) in
    let moved = past p s i c.args.pc c.word_behind.result h c.requires.stands (c.word_behind.ensures ∙ ap (λ (x : Accepted). next_of x c.args.pc) c.accepted-accepted.ensures.module) in
    let one = subst (λ (x : State). Records (events_before a (pass a i x) i + 1) c.args.recorded.now c.come_to.new.recorded) moved c.come_to.ensures.recorded in
    record {
      ok = on_ok_weaker c.set_status.result (λ set. set ∙ ap (set_status i Ready) (c.in_ok-come_to.ensures.ok ∙ ap (pass a i) moved)) c.set_status.ensures.ok;
      recorded = records_on (events_before a (go_on a i s) i + 1) 1 c.args.recorded.now c.come_to.new.recorded c.set_status.new.self one c.set_status.ensures.recorded;
    }

pub returns-in_err-come_to-clause-recorded : goal.returns-in_err-come_to-clause-recorded
returns-in_err-come_to-clause-recorded c =
    let p = c.args.m.now in
    let a = p.accepted in
    let s = c.args.recorded.now.state in
    let i = c.args.inv in
    let h : HasTop p s i Passed = has_top p s i Passed c.requires.sound c.requires.inv c.requires.passed (λ e. cc) in
    let moved = past p s i c.args.pc c.word_behind.result h c.requires.stands (c.word_behind.ensures ∙ ap (λ (x : Accepted). next_of x c.args.pc) c.accepted-accepted.ensures.module) in
    let one = subst (λ (x : State). Records (events_before a (pass a i x) i + 1) c.args.recorded.now c.come_to.new.recorded) moved c.come_to.ensures.recorded in
    records_more (events_before a (go_on a i s) i + 1) (events_before a (go_on a i s) i + 1 + 1) c.args.recorded.now c.come_to.new.recorded (omega arith) one
