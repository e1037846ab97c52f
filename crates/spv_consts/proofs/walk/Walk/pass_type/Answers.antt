use Rattle.std.proofs.Common.{◌∙◌, sym, ap, refl}
use Rattle.spv_consts.specs.State.{State, is_next}
use Rattle.spv_consts.proofs.LengthLemmas.{next_is}
use Rattle.spv_consts.proofs.StepLemmas.{form_next, limits_more}
use Rattle.spv_consts.proofs.walk.Walk.pass_type.Goals as goal

pub returns-in_default : goal.returns-in_default
returns-in_default c =
    let next = sym c.requires ∙ sym (ap (λ (s : State). is_next s c.args.id) c.self.view_is) in
    absurd (form_next c.self.inside.types c.args.id _ (next_is _ _ next) c.in_default.ensures)

pub invariant_of-self : goal.invariant_of-self
invariant_of-self c =
    let next = sym c.requires ∙ sym (ap (λ (s : State). is_next s c.args.id) c.self.view_is) in
    limits_more c.self.inside.types c.self.inside.limits.items _ c.form_limit-limit.result c.args.id _ c.in-Some.form.now c.self.invariant refl (next_is _ _ next) c.in-Some.ensures (rw c.as_slice.ensures.value at c.form_limit-limit.ensures) c.in_ok-push.ensures.items
