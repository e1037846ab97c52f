use Rattle.std.proofs.Common.{◌≡◌, ◌∙◌, Some, ap, inl, inr, slice_get, sym}
use Rattle.spv_statuses.specs.Group.{Held as Statuses}
use Rattle.spv_state.specs.State.{State}
use Rattle.spv_machine.proofs.StatusSteps.{arrived_step, finished_step}
use Rattle.spv_machine.proofs.WeightLemmas.{arrived_weight, finished_weight}
use Rattle.spv_machine.proofs.execution.event.Goals as goal

pub wait-requires-clause-idles : goal.wait-requires-clause-idles
wait-requires-clause-idles c =
    let p = c.args.m.now in
    let s = c.args.recorded.now.state in
    let i = c.args.inv in
    let status : slice_get s.statuses.list i ≡ Some c.get.result
    = sym (ap (λ (x : Statuses). slice_get x.list i) (c.statuses.ensures ∙ ap (λ (x : State). x.statuses) c.whole.ensures)) ∙ c.get.ensures in
    elim c.in-Arrived.is [
      | inl arrived ↦ arrived_step p s i arrived.0 (status ∙ ap Some arrived.1)
      | inr finished ↦ finished_step p s i (status ∙ ap Some finished)
    ]

pub wait-requires-clause-weight : goal.wait-requires-clause-weight
wait-requires-clause-weight c =
    let p = c.args.m.now in
    let s = c.args.recorded.now.state in
    let i = c.args.inv in
    let status : slice_get s.statuses.list i ≡ Some c.get.result
    = sym (ap (λ (x : Statuses). slice_get x.list i) (c.statuses.ensures ∙ ap (λ (x : State). x.statuses) c.whole.ensures)) ∙ c.get.ensures in
    elim c.in-Arrived.is [
      | inl arrived ↦ arrived_weight p s i arrived.0 (status ∙ ap Some arrived.1)
      | inr finished ↦ finished_weight p s i (status ∙ ap Some finished)
    ]
