use Rattle.std.proofs.Common.{◌≡◌, ◌∙◌, ◌+◌, ℕ, Option, ap, length, length-set, refl, sym, subst}
use Rattle.std.specs.Option.{IsSomeAnd}
use Rattle.spv_base.specs.declared.happenings.Happening.{Happening}
use Rattle.spv_frame.specs.Frames.{Held as Frame}
use Rattle.spv_statuses.specs.declared.invocations.Status.TheVariants.{Passed, Ready}
use Rattle.spv_state.specs.Sound.{IsSound}
use Rattle.spv_state.specs.State.{State, set_status, top_of}
use Rattle.spv_state.proofs.Exports.{IsKnown, known_as}
use Rattle.spv_machine.specs.Does.{Does}
use Rattle.spv_machine.specs.Step.{Moves, go_on, plain, step_of}
use Rattle.spv_machine.specs.Weights.{events_before}
use Rattle.spv_machine.specs.World.{seen}
use Rattle.spv_machine.proofs.SoundControl.{past_kept}
use Rattle.spv_machine.proofs.StatusSteps.{HasTop, barrier_next, has_top, passed_step}
use Rattle.spv_machine.proofs.WeightLemmas.{passed_weight}
use Rattle.spv_machine.proofs.Recording.{made_does, made_keeps, made_none}
use Rattle.spv_machine.proofs.execution.pass.Goals as goal

pub pass_by-requires-clause-stands : goal.pass_by-requires-clause-stands
pass_by-requires-clause-stands c = subst (λ (x : State). IsSomeAnd (top_of x c.args.inv) (λ (f : Frame). f.pc ≡ c.barrier-pc.result)) c.whole.ensures c.barrier-pc.ensures

pub returns : goal.returns
returns c =
    let p = c.args.m.now in
    let s = c.args.recorded.now.state in
    let i = c.args.inv in
    let known : IsKnown p.accepted = known_as p.accepted c.accepted-accepted.result.now c.accepted-accepted.ensures.module c.insts-insts.ensures.accepted c.insts-insts.ensures.valid in
    let top : HasTop p s i Passed = has_top p s i Passed c.requires.sound c.requires.inv c.requires.passed (λ e. cc) in
    let stands = subst (λ (x : State). IsSomeAnd (top_of x i) (λ (f : Frame). f.pc ≡ c.barrier-pc.result)) c.whole.ensures c.barrier-pc.ensures in
    let here : top.frame.pc ≡ c.barrier-pc.result = subst (λ (o : Option Frame). IsSomeAnd o (λ (f : Frame). f.pc ≡ c.barrier-pc.result)) top.top stands in
    let behind = barrier_next p s i top.frame known top top.top in
    let w : ℕ = 4 + events_before p.accepted (go_on p.accepted i s) i in
    let next : State = set_status i Ready (go_on p.accepted i s) in
    let h : Happening = plain i c.barrier-pc.result in
    let old = c.args.recorded.now in
    let new = c.pass_by.new.recorded in
    let due : step_of p s i ≡ Moves h next = passed_step p s i top.frame c.requires.passed top.top ∙ ap (λ (n : ℕ). Moves (plain i n) next) here in
    record {
      does = subst (λ (n : ℕ). Does i (step_of p s i) n c.pass_by.result (seen old) (seen new)) (sym (passed_weight p s i c.requires.passed)) (made_does i (step_of p s i) w h next c.pass_by.result old new due c.pass_by.ensures);
      none = made_none h next w c.pass_by.result old new c.requires.none c.pass_by.ensures;
      sound = made_keeps (IsSound p) h next w c.pass_by.result old new c.requires.sound (past_kept p known s i behind.0 top.frame c.requires.sound c.requires.passed top.top behind.1) c.pass_by.ensures;
      invocations = made_keeps (λ (x : State). length x.statuses.list ≡ length s.statuses.list) h next w c.pass_by.result old new refl (length-set s.statuses.list i Ready) c.pass_by.ensures;
    }
