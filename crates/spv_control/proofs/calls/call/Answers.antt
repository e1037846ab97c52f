use Rattle.std.proofs.Common.{◌≡◌, ◌∙◌, ℕ, Err, Ok, ap, rules, subst, sym}
use Rattle.std.specs.List.{Contains}
use Rattle.spv_plans.specs.Plans.{functions_in}
use Rattle.spv_state.proofs.Exports.{readable}
use Rattle.spv_state.specs.declared.actions.Action.TheVariants.{Call}
use Rattle.spv_sites.specs.Effects.{Enter, goes}
use Rattle.spv_sites.specs.Fits.{Fits}
use Rattle.spv_sites.specs.declared.effects.Entered.{Entered}
use Rattle.spv_sites.proofs.Exports.{acting}
use Rattle.spv_control.proofs.EnterLemmas.{begun_plan, begun_rooted, begun_sound, call_faults, call_gives, enter_fits}
use Rattle.spv_control.proofs.calls.call.Goals as goal

pub call_is_kept-requires : goal.call_is_kept-requires
call_is_kept-requires c = acting c.args.site.now.inst Call c.requires

pub plan-plan-requires : goal.plan-plan-requires
plan-plan-requires c = subst (λ (f : ℕ). ∥ Contains (functions_in c.args.site.now.program.accepted) f ∥₁) (sym c.callee-function.ensures) c.call_is_kept.ensures.known

pub frame_of-requires-clause-known : goal.frame_of-requires-clause-known
frame_of-requires-clause-known c = subst (λ (f : ℕ). ∥ Contains (functions_in c.args.site.now.program.accepted) f ∥₁) (sym c.callee-function.ensures) c.call_is_kept.ensures.known

pub begun-requires : goal.begun-requires
begun-requires c = readable c.args.site.now.program.accepted c.in_ok-fresh.fresh c.in_ok-fresh.ensures.sound

pub returns-in_err-fresh-clause-due : goal.returns-in_err-fresh-clause-due
returns-in_err-fresh-clause-due c v =
    let same : c.from_residual.result ≡ Err c.in_err-fresh.field-0.0 = search rules in
    call_faults c.args.site.now c.requires c.callee-function.result c.callee-function.ensures v c.from_residual.result c.in_err-fresh.field-0.0 c.in_err-fresh.ensures.due same

pub returns-clause-due : goal.returns-clause-due
returns-clause-due c v =
    call_gives c.args.site.now c.requires c.callee-function.result c.callee-function.ensures c.in_ok-fresh.fresh c.in_ok-frame.frame c.in_ok-locals.locals c.in_ok-fresh.ensures.due c.in_ok-frame.ensures
    c.in_ok-locals.ensures.value
    ∙ ap (λ (e : Entered). Ok (goes (Enter e.frame e.locals))) (sym c.in_ok-entered.ensures.ok)

pub returns-clause-fits : goal.returns-clause-fits
returns-clause-fits c v =
    let x = c.args.site.now in
    subst (λ (e : Entered). Fits x.program x.state x.inv x.inst (goes (Enter e.frame e.locals))) (sym c.in_ok-entered.ensures.ok)
    (record {
      store = tt;
      result = tt;
      control = enter_fits c.args.site.now.program.accepted c.args.site.now.inst c.callee-function.result c.in_ok-frame.frame c.in_ok-locals.locals c.callee-function.ensures c.call_is_kept.ensures.call
          (begun_sound c.args.site.now c.accepted.result.now c.in_ok-fresh.fresh c.in_ok-frame.frame c.accepted.ensures c.insts-insts.ensures.accepted c.insts-insts.ensures.valid c.in_ok-frame.ensures c.in_ok-fresh.ensures.sound)
          (begun_plan c.args.site.now c.in_ok-fresh.fresh c.in_ok-frame.frame _ c.in_ok-frame.ensures c.in_ok-fresh.ensures.plan) c.in_ok-locals.ensures.value c.in_ok-locals.ensures.are;
      rooted = tt;
      passed = begun_rooted c.args.site.now c.accepted.result.now c.in_ok-fresh.fresh c.in_ok-frame.frame c.accepted.ensures c.insts-insts.ensures.accepted c.insts-insts.ensures.valid c.in_ok-frame.ensures
          c.in_ok-fresh.ensures.sound c.in_ok-fresh.ensures.rooted;
    })
