use Rattle.std.proofs.Common.{ap}
use Rattle.spv_group.specs.Group.{Undoing}
use Rattle.spv_group.proofs.TouchLemmas.{touch_is}
use Rattle.spv_group.proofs.group.Group.touch.Goals as goal

pub returns : goal.returns
returns c =
    let g = c.self.inside in
    record { touch = touch_is g.module g.schedule g.limit g.run.world g.run.position c.args.self.now.group c.touch.result c.self.invariant.now (ap (λ (u : Undoing). u.group) c.self.view_is) c.touch.ensures }
