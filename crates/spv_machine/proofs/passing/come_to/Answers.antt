use Rattle.std.proofs.Common.{◌≡◌, ◌∙◌, ◌+◌, ◌<◌, ℕ, List, [], IsSome, ap, arith, length, subst, sym}
use Rattle.std.proofs.lemmas.Result.{on_ok_weaker}
use Rattle.spv_base.specs.declared.values.PassedEvent.{PassedEvent}
use Rattle.spv_journal.specs.Held.{Records}
use Rattle.spv_state.specs.Events.{IsReadableAt, captures_before, due_at, pass}
use Rattle.spv_state.specs.State.{State, on_frame, top_of, with_pc}
use Rattle.spv_state.proofs.Exports.{passed_is, stacks_stay}
use Rattle.spv_machine.specs.Weights.{events_before}
use Rattle.spv_machine.proofs.PassedLemmas.{come_readable, due_counted, frame_stays, none_due, none_passed, none_there, sound_some, with_events}
use Rattle.spv_machine.proofs.Recording.{records_more, records_on}
use Rattle.spv_machine.proofs.passing.come_to.Goals as goal

pub set_pc-requires-clause-frames : goal.set_pc-requires-clause-frames
set_pc-requires-clause-frames c = sound_some c.args.m.now.accepted (top_of c.args.recorded.now.state c.args.inv) c.requires.frame

pub captured_at-requires-clause-inv : goal.captured_at-requires-clause-inv
captured_at-requires-clause-inv c =
    subst (λ (x : State). c.args.inv < length x.stacks) (sym (c.whole.ensures ∙ c.in_ok-set_pc.ensures.ok)) (stacks_stay c.args.inv (with_pc c.args.pc) c.args.recorded.now.state c.requires.inside)

pub captured_at-requires-clause-frame : goal.captured_at-requires-clause-frame
captured_at-requires-clause-frame c =
    subst (λ (x : State). IsReadableAt c.args.m.now.accepted x c.args.inv) (sym (c.whole.ensures ∙ c.in_ok-set_pc.ensures.ok))
    (come_readable c.args.m.now.accepted c.args.recorded.now.state c.args.inv c.args.pc c.requires.frame)

pub append_all-requires-clause-inside : goal.append_all-requires-clause-inside
append_all-requires-clause-inside c =
    subst (λ (x : State). c.args.inv < length x.stacks) (sym c.in_ok-set_pc.ensures.ok) (stacks_stay c.args.inv (with_pc c.args.pc) c.args.recorded.now.state c.requires.inside)

pub append_all-requires-clause-frames : goal.append_all-requires-clause-frames
append_all-requires-clause-frames c =
    let s = c.args.recorded.now.state in
    subst (λ (x : State). IsSome (top_of x c.args.inv)) (sym c.in_ok-set_pc.ensures.ok)
    (frame_stays c.args.inv (with_pc c.args.pc) s (sound_some c.args.m.now.accepted (top_of s c.args.inv) c.requires.frame))

pub returns : goal.returns
returns c =
    let a = c.args.m.now.accepted in
    let i = c.args.inv in
    let s = c.args.recorded.now.state in
    let come = on_frame i (with_pc c.args.pc) s in
    let es = c.in_ok-events.events.items in
    let due : es ≡ due_at a come i = c.in_ok-events.ensures ∙ ap (λ (x : State). due_at a x i) (c.whole.ensures ∙ c.in_ok-set_pc.ensures.ok) in
    let some = frame_stays i (with_pc c.args.pc) s (sound_some a (top_of s i) c.requires.frame) in
    let count : length es ≡ events_before a (pass a i come) i = ap (λ (xs : List PassedEvent). length xs) due ∙ due_counted a come i some in
    let two = subst (λ (n : ℕ). Records n c.set_pc.new.self c.append_all.new.recorded) count c.append_all.ensures.recorded in
    record {
      ok = on_ok_weaker c.append_all.result (λ done. done ∙ ap (on_frame i (with_events es)) c.in_ok-set_pc.ensures.ok ∙ passed_is a come i es due) c.append_all.ensures.ok;
      recorded = records_more (1 + events_before a (pass a i come) i) (events_before a (pass a i come) i + 1) c.args.recorded.now c.append_all.new.recorded (omega arith)
          (records_on 1 (events_before a (pass a i come) i) c.args.recorded.now c.set_pc.new.self c.append_all.new.recorded c.set_pc.ensures.recorded two);
    }

pub returns-then-is_empty-clause-ok : goal.returns-then-is_empty-clause-ok
returns-then-is_empty-clause-ok c =
    let a = c.args.m.now.accepted in
    let i = c.args.inv in
    let s = c.args.recorded.now.state in
    let none : captures_before a c.args.pc ≡ [] = sym c.captures-2.ensures ∙ none_there c.is_empty.result c.captures-2.result.now c.is_empty.ensures c.if-is_empty.true in
    c.in_ok-set_pc.ensures.ok ∙ none_passed a (on_frame i (with_pc c.args.pc) s) i (none_due a s i c.args.pc (sound_some a (top_of s i) c.requires.frame) none)

pub returns-then-is_empty-clause-recorded : goal.returns-then-is_empty-clause-recorded
returns-then-is_empty-clause-recorded c =
    let a = c.args.m.now.accepted in
    let i = c.args.inv in
    let come = on_frame i (with_pc c.args.pc) c.args.recorded.now.state in
    records_more 1 (events_before a (pass a i come) i + 1) c.args.recorded.now c.set_pc.new.self (omega arith) c.set_pc.ensures.recorded
