use Rattle.std.proofs.Common.{◌≡◌, ◌∙◌, ◌<◌, ap, length, sym, subst}
use Rattle.std.proofs.lemmas.Option.{slice_get_within}
use Rattle.std.proofs.lemmas.Result.{on_ok_weaker}
use Rattle.spv_base.specs.declared.happenings.Happening.{Happening}
use Rattle.spv_sites.specs.Fits.{Fits}
use Rattle.spv_sites.specs.Planned.{IsTaken, shown}
use Rattle.spv_journal.specs.Held.{Held as Recorded, IsMaking, Records}
use Rattle.spv_state.specs.State.{State}
use Rattle.spv_statuses.specs.declared.invocations.Status.TheVariants.{Ready}
use Rattle.spv_machine.specs.Reached.{IsReached}
use Rattle.spv_machine.specs.Recording.{Made, effect_entries}
use Rattle.spv_machine.specs.Step.{apply, happening_of}
use Rattle.spv_machine.specs.Weights.{effect_weight}
use Rattle.spv_machine.proofs.EventLemmas.{happening_inv}
use Rattle.spv_machine.proofs.Recording.{effect_fits, made_is, marked_making, turns_few}
use Rattle.spv_machine.proofs.execution.perform.Goals as goal

pub happening_of-happening-requires : goal.happening_of-happening-requires
happening_of-happening-requires c =
    subst (λ (x : State). c.args.inv < length x.statuses.list) (sym c.whole.ensures) (slice_get_within c.args.recorded.now.state.statuses.list c.args.inv Ready c.requires.reached.ready)

pub apply-done-requires-clause-making : goal.apply-done-requires-clause-making
apply-done-requires-clause-making c =
    let h = c.happening_of-happening.result in
    let inv : h.inv ≡ c.args.inv
    = ap (λ (x : Happening). x.inv) (c.happening_of-happening.ensures c.args.row.now) ∙ happening_inv c.args.m.now c.whole.result.now c.args.inv c.args.inst.now.word (shown c.args.effect c.args.row.now) in
    subst (IsMaking c.mark.new.self.gathered) inv (marked_making h c.args.recorded.now c.mark.new.self c.in-Ok.ensures.ok)

pub apply-done-requires-clause-reached : goal.apply-done-requires-clause-reached
apply-done-requires-clause-reached c = subst (λ (x : Recorded). IsReached c.args.m.now x.state c.args.inv c.args.inst.now) (sym c.in-Ok.ensures.ok) c.requires.reached

pub apply-done-requires-clause-fits : goal.apply-done-requires-clause-fits
apply-done-requires-clause-fits c = subst (λ (x : Recorded). Fits c.args.m.now x.state c.args.inv c.args.inst.now (shown c.args.effect c.args.row.now)) (sym c.in-Ok.ensures.ok) c.requires.fits

pub apply-done-requires-clause-taken : goal.apply-done-requires-clause-taken
apply-done-requires-clause-taken c = subst (λ (x : Recorded). IsTaken x.state c.args.inv c.args.effect c.args.row.now) (sym c.in-Ok.ensures.ok) c.requires.taken

pub returns-in-Ok : goal.returns-in-Ok
returns-in-Ok c =
    let p = c.args.m.now in
    let s = c.args.recorded.now.state in
    let i = c.args.inv in
    let d = c.args.inst.now in
    let e = shown c.args.effect c.args.row.now in
    let h : c.happening_of-happening.result ≡ happening_of p s i d.word e = c.happening_of-happening.ensures c.args.row.now ∙ ap (λ (x : State). happening_of p x i d.word e) c.whole.ensures in
    let t = apply p i d e s in
    let few = subst (λ (x : Recorded). Records (effect_entries p.accepted i e (apply p i d e x.state)) c.mark.new.self c.apply-done.new.recorded) c.in-Ok.ensures.ok c.apply-done.ensures.recorded in
    let reaches = on_ok_weaker c.apply-done.result (λ done. done ∙ ap (λ (x : Recorded). apply p i d e x.state) c.in-Ok.ensures.ok) c.apply-done.ensures.ok in
    subst (λ (g : Happening). Made g (apply p i d e s) (effect_weight p s i d e) c.finished.result c.args.recorded.now c.finished.new.recorded) h
    (made_is c.happening_of-happening.result (effect_entries p.accepted i e t) c.args.recorded.now c.mark.new.self c.apply-done.new.recorded c.requires.none c.in-Ok.ensures.ok few (effect_weight p s i d e) t
    c.apply-done.result c.finished.result c.finished.new.recorded (effect_fits p s i d e (turns_few s i c.args.effect c.args.row.now c.requires.taken) c.requires.single) reaches c.finished.ensures.ok c.finished.ensures.err)
