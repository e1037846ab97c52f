use Rattle.std.proofs.Common.{◌≡◌, ◌∙◌, inl, inr, Some, None, slice_get, ap, sym}
use Rattle.spv_statuses.specs.Group.{Held as Statuses}
use Rattle.spv_state.specs.State.{State}
use Rattle.spv_touch.specs.Touching.{due_of}
use Rattle.spv_touch.proofs.ReadyLemmas.{idle_event, is_arrived, is_finished, is_passed}
use Rattle.spv_touch.proofs.touching.touch.Goals as goal

pub returns-in-Passed : goal.returns-in-Passed
returns-in-Passed c =
    let p = c.args.m.now in
    let s = c.args.w.now.state in
    let i = c.args.inv in
    let status : slice_get s.statuses.list i ≡ Some c.get.result
    = sym (ap (λ (x : Statuses). slice_get x.list i) (c.statuses.ensures ∙ ap (λ (x : State). x.statuses) c.whole-whole.ensures)) ∙ c.get.ensures in
    let none : due_of p s i ≡ None = elim c.in-Passed.is [
      | inl passed ↦ is_passed p s i (status ∙ ap Some passed)
      | inr (inl arrived) ↦ is_arrived p s i arrived.0 (status ∙ ap Some arrived.1)
      | inr (inr finished) ↦ is_finished p s i (status ∙ ap Some finished)
    ] in
    idle_event p s i c.untouching.result none c.untouching.ensures
