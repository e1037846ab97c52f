use Rattle.std.proofs.Common.{◌≡◌, Some, ap, sym, ◌∙◌, inl, inr, slice_get}
use Rattle.spv_statuses.specs.Group.{Held as Statuses}
use Rattle.spv_state.specs.State.{State}
use Rattle.spv_machine.specs.Step.{fault_in}
use Rattle.spv_machine.proofs.StatusSteps.{arrived_step, finished_step, passed_faultless}
use Rattle.spv_machine.proofs.execution.fault_of.Goals as goal

pub returns-in-Passed : goal.returns-in-Passed
returns-in-Passed c =
    let p = c.args.m.now in
    let s = c.args.w.now.state in
    let i = c.args.inv in
    let status : slice_get s.statuses.list i ≡ Some c.get.result
    = sym (ap (λ (x : Statuses). slice_get x.list i) (c.statuses.ensures ∙ ap (λ (x : State). x.statuses) c.whole-whole.ensures)) ∙ c.get.ensures in
    elim c.in-Passed.is [
      | inl passed ↦ sym (passed_faultless p s i (status ∙ ap Some passed))
      | inr (inl arrived) ↦ sym (ap fault_in (arrived_step p s i arrived.0 (status ∙ ap Some arrived.1)))
      | inr (inr finished) ↦ sym (ap fault_in (finished_step p s i (status ∙ ap Some finished)))
    ]
