use Rattle.std.proofs.Common.{◌∙◌, ◌+◌, ap, arith, subst}
use Rattle.std.proofs.lemmas.Result.{on_ok_weaker}
use Rattle.spv_base.specs.declared.happenings.Happening.{Happening}
use Rattle.spv_journal.specs.Held.{Held as Recorded, Records}
use Rattle.spv_statuses.specs.declared.invocations.Status.TheVariants.{Ready}
use Rattle.spv_state.specs.State.{set_status}
use Rattle.spv_machine.specs.Recording.{Made}
use Rattle.spv_machine.specs.Step.{go_on}
use Rattle.spv_machine.specs.Weights.{events_before}
use Rattle.spv_machine.proofs.Recording.{made_is}
use Rattle.spv_machine.proofs.execution.pass_by.Goals as goal

pub returns-in-Ok : goal.returns-in-Ok
returns-in-Ok c =
    let p = c.args.m.now in
    let s = c.args.recorded.now.state in
    let i = c.args.inv in
    let next = set_status i Ready (go_on p.accepted i s) in
    let events = events_before p.accepted (go_on p.accepted i s) i in
    let few = subst (λ (x : Recorded). Records (events_before p.accepted (go_on p.accepted i x.state) i + 1 + 1) c.mark.new.self c.move_past-done.new.recorded) c.in-Ok.ensures.ok c.move_past-done.ensures.recorded in
    let reaches = on_ok_weaker c.move_past-done.result (λ done. done ∙ ap (λ (x : Recorded). set_status i Ready (go_on p.accepted i x.state)) c.in-Ok.ensures.ok) c.move_past-done.ensures.ok in
    subst (λ (g : Happening). Made g next (4 + events) c.finished.result c.args.recorded.now c.finished.new.recorded) c.plain-happening.ensures
    (made_is c.plain-happening.result (events + 1 + 1) c.args.recorded.now c.mark.new.self c.move_past-done.new.recorded c.requires.none c.in-Ok.ensures.ok few (4 + events) next
    c.move_past-done.result c.finished.result c.finished.new.recorded (omega arith) reaches c.finished.ensures.ok c.finished.ensures.err)
