use Rattle.std.proofs.Common.{◌≡◌, ◌∙◌, Option, None, Some, ℕ, ap, sym}
use Rattle.std.proofs.lemmas.Result.{on_ok_weaker}
use Rattle.spv_statuses.specs.Group.{Held as Statuses}
use Rattle.spv_state.specs.State.{State}
use Rattle.spv_machine.specs.Step.{opened_at}
use Rattle.spv_machine.proofs.FinishLemmas.{none_opens, some_waits, waiting_where, waiting_within}
use Rattle.spv_machine.proofs.ReachedLemmas.{Facts, facts}
use Rattle.spv_machine.proofs.applying.open_for_finished.Goals as goal

pub open_at-requires-clause-within : goal.open_at-requires-clause-within
open_at-requires-clause-within c =
    let p = c.args.m.now in
    let s = c.args.recorded.now.state in
    let known : Facts p.accepted = facts p.accepted c.accepted-accepted.result.now c.accepted-accepted.ensures.module c.insts-insts.ensures.accepted c.insts-insts.ensures.valid in
    let found : waiting_where s.statuses.list ≡ Some c.in-Some.word
    = sym (ap (λ (x : Statuses). waiting_where x.list) (c.statuses.ensures ∙ ap (λ (x : State). x.statuses) c.whole.ensures)) ∙ sym c.in-Some.ensures in
    waiting_within p known s c.in-Some.word c.requires.sound (some_waits s.statuses.list c.in-Some.word found)

pub returns-in-Some-clause-ok : goal.returns-in-Some-clause-ok
returns-in-Some-clause-ok c =
    let p = c.args.m.now in
    let s = c.args.recorded.now.state in
    let found : waiting_where s.statuses.list ≡ Some c.in-Some.word
    = sym (ap (λ (x : Statuses). waiting_where x.list) (c.statuses.ensures ∙ ap (λ (x : State). x.statuses) c.whole.ensures)) ∙ sym c.in-Some.ensures in
    on_ok_weaker c.open_at.result (λ opens. opens ∙ ap (λ (o : Option ℕ). opened_at p o s) (sym (some_waits s.statuses.list c.in-Some.word found))) c.open_at.ensures.ok

pub returns-in-None-clause-ok : goal.returns-in-None-clause-ok
returns-in-None-clause-ok c =
    let s = c.args.recorded.now.state in
    let found : waiting_where s.statuses.list ≡ None
    = sym (ap (λ (x : Statuses). waiting_where x.list) (c.statuses.ensures ∙ ap (λ (x : State). x.statuses) c.whole.ensures)) ∙ sym c.in-None.ensures in
    none_opens c.args.m.now s c.requires.counts found
