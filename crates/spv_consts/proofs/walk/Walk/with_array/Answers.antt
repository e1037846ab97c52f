use Rattle.std.proofs.Common.{◌∙◌, sym, ap}
use Rattle.spv_consts.specs.State.{State, is_next}
use Rattle.spv_consts.proofs.LengthLemmas.{limits_kept, next_is}
use Rattle.spv_consts.proofs.walk.Walk.with_array.Goals as goal

pub invariant_of-self : goal.invariant_of-self
invariant_of-self c =
    let next = c.if-is_next.ensures ∙ sym (ap (λ (s : State). is_next s c.args.id) c.self.view_is) in
    rw c.set_length.ensures (limits_kept c.self.inside.types c.self.inside.limits.items c.args.id c.args.length c.self.invariant (next_is _ _ next))
