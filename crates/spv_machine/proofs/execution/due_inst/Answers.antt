use Rattle.std.proofs.Common.{◌≡◌, Some, None, ap, sym, ◌∙◌}
use Rattle.spv_index.specs.Definitions.{at}
use Rattle.spv_statuses.specs.declared.invocations.Status.TheVariants.{Ready}
use Rattle.spv_valid.specs.Acceptance.{Accepted}
use Rattle.spv_state.proofs.Exports.{IsKnown, known_as}
use Rattle.spv_machine.proofs.StatusSteps.{HasTop, has_top, ready_at}
use Rattle.spv_machine.proofs.execution.due_inst.Goals as goal

pub unreachable-requires : goal.unreachable-requires
unreachable-requires c =
    let h : HasTop c.args.m.now c.args.whole.now c.args.inv Ready = has_top c.args.m.now c.args.whole.now c.args.inv Ready c.requires.sound c.requires.inv c.requires.ready (λ e. cc) in
    let clash : None ≡ Some h.frame = c.in_default.ensures ∙ h.top in
    cc

pub unreachable-requires-in-None : goal.unreachable-requires-in-None
unreachable-requires-in-None c =
    let p = c.args.m.now in
    let s = c.args.whole.now in
    let f = c.in-Some.frame.now in
    let known : IsKnown p.accepted = known_as p.accepted c.accepted-accepted.result.now c.accepted-accepted.ensures.module c.insts-insts.ensures.accepted c.insts-insts.ensures.valid in
    let h : HasTop p s c.args.inv Ready = has_top p s c.args.inv Ready c.requires.sound c.requires.inv c.requires.ready (λ e. cc) in
    let found = ready_at p s c.args.inv f known h (sym c.in-Some.ensures) in
    let clash : None ≡ Some found.0 = c.in-None.ensures ∙ ap (λ (x : Accepted). at x.insts c.pc.result) c.accepted-accepted.ensures.module ∙ ap (at p.accepted.insts) c.pc.ensures ∙ found.1 in
    cc
