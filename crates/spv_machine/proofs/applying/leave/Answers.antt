use Rattle.std.proofs.Common.{◌≡◌, ◌∙◌, ◌+◌, ◌<◌, ℕ, None, Some, ap, arith, length, subst, sym}
use Rattle.std.proofs.lemmas.Option.{slice_get_within}
use Rattle.std.proofs.lemmas.Result.{on_ok_weaker}
use Rattle.std.specs.Option.{option_and_then}
use Rattle.spv_index.specs.Definitions.{at}
use Rattle.spv_frame.specs.Frames.{Held as Frame}
use Rattle.spv_sites.specs.Planned.{gained}
use Rattle.spv_journal.specs.Held.{Records}
use Rattle.spv_state.specs.Sound.{IsSound}
use Rattle.spv_state.specs.State.{State, frames_of, top_of, without_top}
use Rattle.spv_statuses.specs.declared.invocations.Status.TheVariants.{Ready}
use Rattle.spv_machine.specs.Reached.{IsReached}
use Rattle.spv_machine.specs.Step.{finish, finished, go_on, leave, put_result}
use Rattle.spv_machine.specs.Weights.{events_before, taking}
use Rattle.spv_machine.proofs.StatusSteps.{reached_inside}
use Rattle.spv_machine.proofs.LeaveLemmas.{leave_locals, reached_some}
use Rattle.spv_machine.proofs.ReturnLemmas.{CalledBy, LeftAt, given_rooted, left_all, left_finished, left_to}
use Rattle.spv_machine.proofs.ReachedLemmas.{Facts, facts, levels_inside}
use Rattle.spv_machine.proofs.SoundCalls.{finished_sound}
use Rattle.spv_machine.proofs.Recording.{records_more, records_on}
use Rattle.spv_base.proofs.Exports.{length_change}
use Rattle.spv_machine.proofs.applying.leave.Goals as goal

pub leave-requires-clause-stacks : goal.leave-requires-clause-stacks
leave-requires-clause-stacks c = reached_inside c.args.m.now c.args.recorded.now.state c.args.inv c.args.inst.now c.requires.reached

pub leave-requires-clause-locals : goal.leave-requires-clause-locals
leave-requires-clause-locals c = levels_inside c.args.m.now c.args.recorded.now.state c.args.inv c.args.inst.now c.requires.reached

pub leave-requires-clause-frames : goal.leave-requires-clause-frames
leave-requires-clause-frames c = reached_some c.args.m.now c.args.recorded.now.state c.args.inv c.args.inst.now c.requires.reached

pub leave-requires-clause-variables : goal.leave-requires-clause-variables
leave-requires-clause-variables c =
    let p = c.args.m.now in
    let known : Facts p.accepted = facts p.accepted c.accepted-accepted.result.now c.accepted-accepted.ensures.module c.insts-insts.ensures.accepted c.insts-insts.ensures.valid in
    leave_locals p known c.args.recorded.now.state c.args.inv c.args.inst.now c.requires.reached

pub caller-requires : goal.caller-requires
caller-requires c =
    let s = c.args.recorded.now.state in
    let own = reached_inside c.args.m.now s c.args.inv c.args.inst.now c.requires.reached in
    subst (λ (x : State). c.args.inv < length x.stacks) (sym c.in_ok-leave.ensures.ok ∙ sym c.whole.ensures) (subst (λ (n : ℕ). c.args.inv < n) (sym (length_change c.args.inv without_top s.stacks)) own)

pub finish-requires-clause-inside : goal.finish-requires-clause-inside
finish-requires-clause-inside c =
    subst (λ (x : State). c.args.inv < length x.statuses.list) (sym c.in_ok-leave.ensures.ok) (slice_get_within c.args.recorded.now.state.statuses.list c.args.inv Ready c.requires.reached.ready)

pub resume-requires-clause-reached : goal.resume-requires-clause-reached
resume-requires-clause-reached c =
    let p = c.args.m.now in
    let known : Facts p.accepted = facts p.accepted c.accepted-accepted.result.now c.accepted-accepted.ensures.module c.insts-insts.ensures.accepted c.insts-insts.ensures.valid in
    let here : LeftAt p c.args.recorded.now.state c.args.inv ≡ Some c.in-Some.call.now
    = ap (λ (x : State). option_and_then (λ (f : Frame). at p.accepted.insts f.pc) (top_of x c.args.inv)) (sym c.in_ok-leave.ensures.ok ∙ sym c.whole.ensures) ∙ sym c.in-Some.ensures in
    let by : CalledBy p c.args.recorded.now.state c.args.inv c.args.inst.now c.in-Some.call.now = left_to p known c.args.recorded.now.state c.args.inv c.args.inst.now c.requires.reached c.in-Some.call.now here in
    subst (λ (x : State). IsReached p x c.args.inv c.in-Some.call.now) (sym c.in_ok-leave.ensures.ok) by.reached

pub resume-requires-clause-next : goal.resume-requires-clause-next
resume-requires-clause-next c =
    let p = c.args.m.now in
    let known : Facts p.accepted = facts p.accepted c.accepted-accepted.result.now c.accepted-accepted.ensures.module c.insts-insts.ensures.accepted c.insts-insts.ensures.valid in
    let here : LeftAt p c.args.recorded.now.state c.args.inv ≡ Some c.in-Some.call.now
    = ap (λ (x : State). option_and_then (λ (f : Frame). at p.accepted.insts f.pc) (top_of x c.args.inv)) (sym c.in_ok-leave.ensures.ok ∙ sym c.whole.ensures) ∙ sym c.in-Some.ensures in
    (left_to p known c.args.recorded.now.state c.args.inv c.args.inst.now c.requires.reached c.in-Some.call.now here).next

pub resume-requires-clause-fits : goal.resume-requires-clause-fits
resume-requires-clause-fits c =
    let p = c.args.m.now in
    let known : Facts p.accepted = facts p.accepted c.accepted-accepted.result.now c.accepted-accepted.ensures.module c.insts-insts.ensures.accepted c.insts-insts.ensures.valid in
    let here : LeftAt p c.args.recorded.now.state c.args.inv ≡ Some c.in-Some.call.now
    = ap (λ (x : State). option_and_then (λ (f : Frame). at p.accepted.insts f.pc) (top_of x c.args.inv)) (sym c.in_ok-leave.ensures.ok ∙ sym c.whole.ensures) ∙ sym c.in-Some.ensures in
    (left_to p known c.args.recorded.now.state c.args.inv c.args.inst.now c.requires.reached c.in-Some.call.now here).fits (gained c.args.gain c.args.row.now) c.requires.fits

pub resume-requires-clause-rooted : goal.resume-requires-clause-rooted
resume-requires-clause-rooted c =
    given_rooted c.args.m.now.accepted (gained c.args.gain c.args.row.now) (frames_of c.leave.new.self.state c.args.inv) c.requires.rooted

pub returns-in-Some : goal.returns-in-Some
returns-in-Some c =
    let p = c.args.m.now in
    let a = p.accepted in
    let i = c.args.inv in
    let s = c.args.recorded.now.state in
    let known : Facts p.accepted = facts p.accepted c.accepted-accepted.result.now c.accepted-accepted.ensures.module c.insts-insts.ensures.accepted c.insts-insts.ensures.valid in
    let here : LeftAt p s i ≡ Some c.in-Some.call.now
    = ap (λ (x : State). option_and_then (λ (f : Frame). at p.accepted.insts f.pc) (top_of x i)) (sym c.in_ok-leave.ensures.ok ∙ sym c.whole.ensures) ∙ sym c.in-Some.ensures in
    let by : CalledBy p s i c.args.inst.now c.in-Some.call.now = left_to p known s i c.args.inst.now c.requires.reached c.in-Some.call.now here in
    let o = gained c.args.gain c.args.row.now in
    let left : go_on a i (put_result i c.in-Some.call.now.id o c.leave.new.self.state) ≡ leave p i o s
    = ap (λ (x : State). go_on a i (put_result i c.in-Some.call.now.id o x)) c.in_ok-leave.ensures.ok ∙ sym (by.leaves o) in
    let two = subst (λ (x : State). Records (taking o + (events_before a x i + 1)) c.leave.new.self c.resume.new.recorded) left c.resume.ensures.recorded in
    record {
      ok = on_ok_weaker c.resume.result (λ gone. gone ∙ left) c.resume.ensures.ok;
      recorded = records_more (1 + (taking o + (events_before a (leave p i o s) i + 1))) (taking o + (events_before a (leave p i o s) i + 3)) c.args.recorded.now c.resume.new.recorded (omega arith)
          (records_on 1 (taking o + (events_before a (leave p i o s) i + 1)) c.args.recorded.now c.leave.new.self c.resume.new.recorded c.leave.ensures.recorded two);
    }

pub finish-requires-clause-sound : goal.finish-requires-clause-sound
finish-requires-clause-sound c =
    let p = c.args.m.now in
    let s = c.args.recorded.now.state in
    let i = c.args.inv in
    let r = c.requires.reached in
    let known : Facts p.accepted = facts p.accepted c.accepted-accepted.result.now c.accepted-accepted.ensures.module c.insts-insts.ensures.accepted c.insts-insts.ensures.valid in
    let none : LeftAt p s i ≡ None
    = ap (λ (x : State). option_and_then (λ (f : Frame). at p.accepted.insts f.pc) (top_of x i)) (sym c.in_ok-leave.ensures.ok ∙ sym c.whole.ensures) ∙ sym c.in-None.ensures in
    subst (λ (x : State). IsSound p (finished i x)) (sym c.in_ok-leave.ensures.ok) (finished_sound p s i r.sound r.ready (left_all p known s i c.args.inst.now r none))

pub returns-in-None-clause-ok : goal.returns-in-None-clause-ok
returns-in-None-clause-ok c =
    let p = c.args.m.now in
    let known : Facts p.accepted = facts p.accepted c.accepted-accepted.result.now c.accepted-accepted.ensures.module c.insts-insts.ensures.accepted c.insts-insts.ensures.valid in
    let none : LeftAt p c.args.recorded.now.state c.args.inv ≡ None
    = ap (λ (x : State). option_and_then (λ (f : Frame). at p.accepted.insts f.pc) (top_of x c.args.inv)) (sym c.in_ok-leave.ensures.ok ∙ sym c.whole.ensures) ∙ sym c.in-None.ensures in
    on_ok_weaker c.finish.result (λ done. done ∙ ap (finish p c.args.inv) c.in_ok-leave.ensures.ok
    ∙ sym (left_finished p known c.args.recorded.now.state c.args.inv c.args.inst.now c.requires.reached (gained c.args.gain c.args.row.now) none))
    c.finish.ensures.ok
