use Rattle.std.proofs.Common.{◌∙◌, ◌<◌, ap, subst, sym}
use Rattle.std.proofs.lemmas.Result.{on_ok_weaker}
use Rattle.spv_state.specs.State.{State}
use Rattle.spv_machine.specs.Step.{opened}
use Rattle.spv_machine.proofs.ReachedLemmas.{Facts, facts, reached_word}
use Rattle.spv_machine.proofs.applying.arrive.Goals as goal

pub set_status-requires-clause-within : goal.set_status-requires-clause-within
set_status-requires-clause-within c =
    let p = c.args.m.now in
    let known : Facts p.accepted = facts p.accepted c.accepted-accepted.result.now c.accepted-accepted.ensures.module c.insts-insts.ensures.accepted c.insts-insts.ensures.valid in
    reached_word p known c.args.recorded.now.state c.args.inv c.args.inst.now c.requires.reached

pub open_at-requires-clause-within : goal.open_at-requires-clause-within
open_at-requires-clause-within c =
    let p = c.args.m.now in
    let known : Facts p.accepted = facts p.accepted c.accepted-accepted.result.now c.accepted-accepted.ensures.module c.insts-insts.ensures.accepted c.insts-insts.ensures.valid in
    subst (λ (s : State). c.args.inst.now.word < s.statuses.words) (sym c.in_ok-set_status.ensures.ok) (reached_word p known c.args.recorded.now.state c.args.inv c.args.inst.now c.requires.reached)

pub returns-clause-ok : goal.returns-clause-ok
returns-clause-ok c =
    on_ok_weaker c.open_at.result (λ is. is ∙ ap (opened c.args.m.now c.args.inst.now.word) c.in_ok-set_status.ensures.ok) c.open_at.ensures.ok
