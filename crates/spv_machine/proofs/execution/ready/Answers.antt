use Rattle.std.proofs.Common.{◌≡◌, ℕ, Result, Ok, length, refl, sym, subst}
use Rattle.spv_base.specs.declared.happenings.Happening.{Happening}
use Rattle.spv_actions.specs.Cells.{full}
use Rattle.spv_sites.specs.Fits.{Fits}
use Rattle.spv_sites.specs.Planned.{IsTaken, shown}
use Rattle.spv_state.specs.Sound.{IsSound}
use Rattle.spv_state.specs.State.{State}
use Rattle.spv_machine.specs.Cells.{IsCellStep}
use Rattle.spv_machine.specs.Does.{Does}
use Rattle.spv_machine.specs.Reached.{IsReached}
use Rattle.spv_machine.specs.Recording.{IsSingleBack}
use Rattle.spv_machine.specs.Step.{Moves, apply, happening_of, step_of}
use Rattle.spv_machine.specs.Weights.{effect_weight, weight_of}
use Rattle.spv_machine.specs.World.{seen}
use Rattle.spv_machine.specs.declared.execution.Did.{Did}
use Rattle.spv_machine.specs.declared.execution.StepErr.{StepErr}
use Rattle.spv_machine.proofs.Applied.{applied_count, applied_sound}
use Rattle.spv_machine.proofs.CellLemmas.{cell_moves, cell_weighs}
use Rattle.spv_machine.proofs.ReachedLemmas.{Facts, facts}
use Rattle.spv_machine.proofs.Recording.{made_does, made_keeps, made_none}
use Rattle.spv_machine.proofs.execution.ready.Goals as goal

pub perform-requires-clause-reached : goal.perform-requires-clause-reached
perform-requires-clause-reached c = subst (λ (x : State). IsReached c.args.m.now x c.args.inv c.due_inst-inst.result.now) c.whole-whole.ensures c.due_inst-inst.ensures

pub perform-requires-clause-fits : goal.perform-requires-clause-fits
perform-requires-clause-fits c =
    subst (λ (x : State). Fits c.args.m.now x c.args.inv c.due_inst-inst.result.now (shown c.in-Ok.effect c.due.new.row)) c.whole.ensures c.in-Ok.ensures.fits

pub perform-requires-clause-taken : goal.perform-requires-clause-taken
perform-requires-clause-taken c = subst (λ (x : State). IsTaken x c.args.inv c.in-Ok.effect c.due.new.row) c.whole.ensures c.in-Ok.ensures.taken

pub perform-requires-clause-single : goal.perform-requires-clause-single
perform-requires-clause-single c =
    subst (λ (x : State). IsSingleBack c.args.m.now x c.args.inv c.due_inst-inst.result.now (shown c.in-Ok.effect c.due.new.row)) c.whole.ensures c.in-Ok.ensures.single

pub returns-in-Ok : goal.returns-in-Ok
returns-in-Ok c =
    let p = c.args.m.now in
    let s = c.args.recorded.now.state in
    let i = c.args.inv in
    let d = c.due_inst-inst.result.now in
    let e = shown c.in-Ok.effect c.due.new.row in
    let w : ℕ = effect_weight p s i d e in
    let next : State = apply p i d e s in
    let h : Happening = happening_of p s i d.word e in
    let old = c.args.recorded.now in
    let new = c.perform.new.recorded in
    let known : Facts p.accepted = facts p.accepted c.accepted-accepted.result.now c.accepted-accepted.ensures.module c.insts-insts.ensures.accepted c.insts-insts.ensures.valid in
    let reached : IsReached p s i d = subst (λ (x : State). IsReached p x i d) c.whole-whole.ensures c.due_inst-inst.ensures in
    let fits : Fits p s i d e = subst (λ (x : State). Fits p x i d e) c.whole.ensures c.in-Ok.ensures.fits in
    let due : step_of p s i ≡ Moves h next = subst (λ (x : State). step_of p x i ≡ Moves (happening_of p x i d.word e) (apply p i d e x)) c.whole.ensures c.in-Ok.ensures.due in
    let weight : weight_of p s i ≡ w = subst (λ (x : State). weight_of p x i ≡ effect_weight p x i d e) c.whole.ensures c.in-Ok.ensures.weight in
    record {
      does = subst (λ (n : ℕ). Does i (step_of p s i) n c.perform.result (seen old) (seen new)) (sym weight) (made_does i (step_of p s i) w h next c.perform.result old new due c.perform.ensures);
      none = made_none h next w c.perform.result old new c.requires.none c.perform.ensures;
      sound = made_keeps (IsSound p) h next w c.perform.result old new c.requires.sound (applied_sound p known s i d e reached fits) c.perform.ensures;
      invocations = made_keeps (λ (x : State). length x.statuses.list ≡ length s.statuses.list) h next w c.perform.result old new refl (applied_count p i d e s) c.perform.ensures;
    }

-- ---- where it is predecoded

pub returns-in-Some : goal.returns-in-Some
returns-in-Some c =
    let p = c.args.m.now in
    let s = c.args.recorded.now.state in
    let i = c.args.inv in
    let d = c.due_inst-inst.result.now in
    let step = c.in-Some.step in
    let e = full step.effect in
    let w : ℕ = effect_weight p s i d e in
    let next : State = apply p i d e s in
    let h : Happening = happening_of p s i d.word e in
    let old = c.args.recorded.now in
    let new = c.cell_event.new.recorded in
    let did : Result Did StepErr = Ok c.cell_event.result in
    let known : Facts p.accepted = facts p.accepted c.accepted-accepted.result.now c.accepted-accepted.ensures.module c.insts-insts.ensures.accepted c.insts-insts.ensures.valid in
    let reached : IsReached p s i d = subst (λ (x : State). IsReached p x i d) c.whole-whole.ensures c.due_inst-inst.ensures in
    let is : IsCellStep p s i d step = subst (λ (x : State). IsCellStep p x i d step) c.whole-whole.ensures c.in-Some.ensures in
    record {
      does = subst (λ (n : ℕ). Does i (step_of p s i) n did (seen old) (seen new)) (sym (cell_weighs p s i d step reached is))
          (made_does i (step_of p s i) w h next did old new (cell_moves p s i d step reached is) c.cell_event.ensures);
      none = made_none h next w did old new c.requires.none c.cell_event.ensures;
      sound = made_keeps (IsSound p) h next w did old new c.requires.sound (applied_sound p known s i d e reached is.effect.fits) c.cell_event.ensures;
      invocations = made_keeps (λ (x : State). length x.statuses.list ≡ length s.statuses.list) h next w did old new refl (applied_count p i d e s) c.cell_event.ensures;
    }
