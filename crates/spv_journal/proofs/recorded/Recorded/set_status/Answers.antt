use Rattle.std.proofs.Common.{◌≡◌, ◌∙◌, ◌<◌, ℕ, Some, length, slice_get, arith, rules, subst, sym}
use Rattle.spv_state.specs.State.{State, set_status}
use Rattle.spv_statuses.specs.Invocations.{IsWithin}
use Rattle.spv_statuses.specs.declared.invocations.Status.{Status}
use Rattle.spv_journal.specs.Events.{Kept}
use Rattle.spv_journal.specs.Held.{Held}
use Rattle.spv_undo.specs.Undo.{Undoes}
use Rattle.spv_undo.specs.declared.entries.Entry.TheVariants.{StatusChanged}
use Rattle.spv_undo.proofs.Exports.{status_undone}
use Rattle.spv_journal.proofs.RecordLemmas.{extended, held_of, same_held, still, still_unwinds}
use Rattle.spv_journal.proofs.recorded.Recorded.set_status.Goals as goal

-- the status's entry leads back
changed : (i : ℕ) (status old : Status) (s t : State) (j : Kept) (w : Held) → held_of s j ≡ w → i < length w.state.statuses.list → t ≡ set_status i status s → slice_get s.statuses.list i ≡ Some old → IsWithin s.statuses.words old
    → Undoes i (StatusChanged old) s t
changed i status old s t j w is inside after was within =
    subst (Undoes i (StatusChanged old) s) (sym after) (status_undone i status old s (subst (λ (h : Held). i < length h.state.statuses.list) (sym is) inside) was within)

pub invariant_of-self : goal.invariant_of-self
invariant_of-self c =
    let s = c.self.inside.whole in
    let t = c.set_status-old.new.self in
    let j = c.self.inside.journal in
    let old = c.set_status-old.result in
    let u = changed c.args.i c.args.status old s t j c.args.self.now c.self.view_is c.requires.inside c.set_status-old.ensures.after c.set_status-old.ensures.handed c.set_status-old.ensures.within in
    (extended 1 c.args.i (StatusChanged old) s t j c.change_status.new.self c.args.self.now c.self.view_is c.requires.making c.in-Ok.ensures.ok u c.self.invariant (omega arith)).unwinds

pub invariant_of-self-in-Err : goal.invariant_of-self-in-Err
invariant_of-self-in-Err c =
    let s = c.self.inside.whole in
    let t = c.set_status-old.new.self in
    let j = c.self.inside.journal in
    let u = changed c.args.i c.args.status c.set_status-old.result s t j c.args.self.now c.self.view_is c.requires.inside c.set_status-old.ensures.after c.set_status-old.ensures.handed c.set_status-old.ensures.within in
    still_unwinds s c.set_status.new.self j c.change_status.new.self c.in-Err.ensures.err (c.set_status.ensures.after ∙ u.back) c.self.invariant

pub returns-in-Ok-clause-recorded : goal.returns-in-Ok-clause-recorded
returns-in-Ok-clause-recorded c =
    let s = c.self.inside.whole in
    let t = c.set_status-old.new.self in
    let j = c.self.inside.journal in
    let old = c.set_status-old.result in
    let u = changed c.args.i c.args.status old s t j c.args.self.now c.self.view_is c.requires.inside c.set_status-old.ensures.after c.set_status-old.ensures.handed c.set_status-old.ensures.within in
    (extended 1 c.args.i (StatusChanged old) s t j c.change_status.new.self c.args.self.now c.self.view_is c.requires.making c.in-Ok.ensures.ok u c.self.invariant (omega arith)).records

pub returns-in-Err : goal.returns-in-Err
returns-in-Err c =
    let s = c.self.inside.whole in
    let t = c.set_status-old.new.self in
    let j = c.self.inside.journal in
    let u = changed c.args.i c.args.status c.set_status-old.result s t j c.args.self.now c.self.view_is c.requires.inside c.set_status-old.ensures.after c.set_status-old.ensures.handed c.set_status-old.ensures.within in
    let same = same_held s c.set_status.new.self j c.change_status.new.self c.args.self.now c.self.view_is c.in-Err.ensures.err (c.set_status.ensures.after ∙ u.back) in
    record { ok = search rules; recorded = still 1 c.args.self.now _ same; err = same }
