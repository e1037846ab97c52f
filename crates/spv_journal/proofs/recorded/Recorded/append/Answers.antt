use Rattle.std.proofs.Common.{◌≡◌, ◌∙◌, ◌<◌, ℕ, IsSome, length, arith, rules, subst, sym}
use Rattle.spv_base.specs.declared.values.PassedEvent.{PassedEvent}
use Rattle.spv_state.specs.State.{State, append_event, on_frame, top_of}
use Rattle.spv_journal.specs.Events.{Kept}
use Rattle.spv_journal.specs.Held.{Held}
use Rattle.spv_undo.specs.Undo.{Undoes}
use Rattle.spv_undo.specs.declared.entries.Entry.TheVariants.{EventAppended}
use Rattle.spv_undo.proofs.Exports.{event_undone}
use Rattle.spv_journal.proofs.RecordLemmas.{extended, held_of, same_held, still, still_unwinds}
use Rattle.spv_journal.proofs.recorded.Recorded.append.Goals as goal

-- the event's entry leads back
passed : (i : ℕ) (e : PassedEvent) (s t : State) (j : Kept) (w : Held) → held_of s j ≡ w → i < length w.state.stacks → IsSome (top_of w.state i) → t ≡ on_frame i (append_event e) s → Undoes i EventAppended s t
passed i e s t j w is inside some after =
    subst (Undoes i EventAppended s) (sym after)
    (event_undone i e s (subst (λ (h : Held). i < length h.state.stacks) (sym is) inside) (subst (λ (h : Held). IsSome (top_of h.state i)) (sym is) some))

pub invariant_of-self-in-Ok : goal.invariant_of-self-in-Ok
invariant_of-self-in-Ok c =
    let s = c.self.inside.whole in
    let t = c.append.new.self in
    let j = c.self.inside.journal in
    let u = passed c.args.i c.args.event s t j c.args.self.now c.self.view_is c.requires.inside c.requires.frames c.in_ok-append.ensures.ok in
    (extended 1 c.args.i EventAppended s t j c.add.new.self c.args.self.now c.self.view_is c.requires.making c.in-Ok.ensures.ok u c.self.invariant (omega arith)).unwinds

pub returns-in-Ok-clause-recorded : goal.returns-in-Ok-clause-recorded
returns-in-Ok-clause-recorded c =
    let s = c.self.inside.whole in
    let t = c.append.new.self in
    let j = c.self.inside.journal in
    let u = passed c.args.i c.args.event s t j c.args.self.now c.self.view_is c.requires.inside c.requires.frames c.in_ok-append.ensures.ok in
    (extended 1 c.args.i EventAppended s t j c.add.new.self c.args.self.now c.self.view_is c.requires.making c.in-Ok.ensures.ok u c.self.invariant (omega arith)).records

pub drop_event-requires : goal.drop_event-requires
drop_event-requires c =
    let u = passed c.args.i c.args.event c.self.inside.whole c.append.new.self c.self.inside.journal c.args.self.now c.self.view_is c.requires.inside c.requires.frames c.in_ok-append.ensures.ok in
    record { inv = u.can.0; events = u.can.1 }

pub invariant_of-self-in-Err : goal.invariant_of-self-in-Err
invariant_of-self-in-Err c =
    let s = c.self.inside.whole in
    let j = c.self.inside.journal in
    let u = passed c.args.i c.args.event s c.append.new.self j c.args.self.now c.self.view_is c.requires.inside c.requires.frames c.in_ok-append.ensures.ok in
    still_unwinds s c.drop_event.new.self j c.add.new.self c.in-Err.ensures.err (c.drop_event.ensures ∙ u.back) c.self.invariant

pub returns-in-Err : goal.returns-in-Err
returns-in-Err c =
    let s = c.self.inside.whole in
    let j = c.self.inside.journal in
    let u = passed c.args.i c.args.event s c.append.new.self j c.args.self.now c.self.view_is c.requires.inside c.requires.frames c.in_ok-append.ensures.ok in
    let same = same_held s c.drop_event.new.self j c.add.new.self c.args.self.now c.self.view_is c.in-Err.ensures.err (c.drop_event.ensures ∙ u.back) in
    record { ok = search rules; recorded = still 1 c.args.self.now _ same; err = same }
