use Rattle.std.proofs.Common.{◌≡◌, ◌∙◌, None, Some}
use Rattle.spv_statuses.specs.declared.invocations.Status.TheVariants.{Passed}
use Rattle.spv_machine.proofs.StatusSteps.{HasTop, has_top}
use Rattle.spv_machine.proofs.execution.barrier.Goals as goal

pub unreachable-requires : goal.unreachable-requires
unreachable-requires c =
    let h : HasTop c.args.m.now c.args.whole.now c.args.inv Passed = has_top c.args.m.now c.args.whole.now c.args.inv Passed c.requires.sound c.requires.inv c.requires.passed (λ e. cc) in
    let clash : None ≡ Some h.frame = c.in-None.ensures ∙ h.top in
    cc
