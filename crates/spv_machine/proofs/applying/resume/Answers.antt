use Rattle.std.proofs.Common.{◌∙◌, ◌+◌, ap, arith, subst, sym}
use Rattle.std.proofs.lemmas.Result.{on_ok_weaker}
use Rattle.spv_sites.specs.Planned.{gained}
use Rattle.spv_journal.specs.Held.{Records}
use Rattle.spv_state.specs.State.{State}
use Rattle.spv_machine.specs.Reached.{IsReached}
use Rattle.spv_machine.specs.Step.{go_on, put_result}
use Rattle.spv_machine.specs.Weights.{events_before, taking}
use Rattle.spv_machine.proofs.Recording.{records_more, records_on}
use Rattle.spv_machine.proofs.ReachedLemmas.{Facts, facts, set_reached}
use Rattle.spv_machine.proofs.applying.resume.Goals as goal

pub go_on-requires-clause-reached : goal.go_on-requires-clause-reached
go_on-requires-clause-reached c =
    let p = c.args.m.now in
    let known : Facts p.accepted = facts p.accepted c.accepted-accepted.result.now c.accepted-accepted.ensures.module c.insts-insts.ensures.accepted c.insts-insts.ensures.valid in
    subst (λ (x : State). IsReached p x c.args.inv c.args.call.now) (sym c.in_ok-put_result.ensures.result)
    (set_reached p known.known c.args.recorded.now.state c.args.inv c.args.call.now (gained c.args.gain c.args.row.now) c.requires.reached c.requires.fits c.requires.rooted)

pub returns-clause-ok : goal.returns-clause-ok
returns-clause-ok c =
    on_ok_weaker c.go_on.result (λ gone. gone ∙ ap (go_on c.args.m.now.accepted c.args.inv) c.in_ok-put_result.ensures.result) c.go_on.ensures.ok

pub returns-in_err-put_result-clause-recorded : goal.returns-in_err-put_result-clause-recorded
returns-in_err-put_result-clause-recorded c =
    let n = taking (gained c.args.gain c.args.row.now) in
    records_more n (n + (events_before c.args.m.now.accepted (go_on c.args.m.now.accepted c.args.inv (put_result c.args.inv c.args.call.now.id (gained c.args.gain c.args.row.now) c.args.recorded.now.state)) c.args.inv + 1))
    c.args.recorded.now c.put_result.new.recorded (omega arith) c.put_result.ensures.recorded

pub returns-clause-recorded : goal.returns-clause-recorded
returns-clause-recorded c =
    let a = c.args.m.now.accepted in
    let i = c.args.inv in
    let o = gained c.args.gain c.args.row.now in
    let two = subst (λ (x : State). Records (events_before a (go_on a i x) i + 1) c.put_result.new.recorded c.go_on.new.recorded) c.in_ok-put_result.ensures.result c.go_on.ensures.recorded in
    records_on (taking o) (events_before a (go_on a i (put_result i c.args.call.now.id o c.args.recorded.now.state)) i + 1) c.args.recorded.now c.put_result.new.recorded c.go_on.new.recorded c.put_result.ensures.recorded two
