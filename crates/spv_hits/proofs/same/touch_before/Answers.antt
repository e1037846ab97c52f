use Rattle.std.proofs.Common.{◌≡◌, ◌-◌, Some, slice_get, subst}
use Rattle.std.specs.Prelude.{IfSome}
use Rattle.spv_group.specs.Group.{entries_in, group_at, state_in}
use Rattle.spv_hits.proofs.AlikeLemmas.{touch_is}
use Rattle.spv_hits.proofs.same.touch_before.Goals as goal

pub returns : goal.returns
returns c =
    let g = c.args.group.now.group in
    let entry = subst (λ o. IfSome o (λ i. slice_get (entries_in g) (g.position - 1) ≡ Some i)) c.in_ok-inv.was c.requires.entry in
    touch_is g c.in_ok-touch.touch c.in_ok-inv.inv (state_in (group_at (g.position - 1) g)) (state_in g) c.requires.some entry c.in_ok-touch.ensures.touch
