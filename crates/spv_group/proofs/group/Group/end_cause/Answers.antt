use Rattle.std.proofs.Common.{ap}
use Rattle.spv_group.specs.Group.{Undoing}
use Rattle.spv_group.proofs.Runs.{entry_within, sound_here, cause_is}
use Rattle.spv_group.proofs.group.Group.end_cause.Goals as goal

pub cause_here-requires-clause-sound : goal.cause_here-requires-clause-sound
cause_here-requires-clause-sound c =
    let g = c.self.inside in
    sound_here g.module g.schedule g.limit g.run.world g.run.position c.self.invariant.now

pub cause_here-requires-clause-next : goal.cause_here-requires-clause-next
cause_here-requires-clause-next c i e =
    let g = c.self.inside in
    entry_within g.module g.schedule g.limit g.run.world g.run.position i c.at-next.result c.self.invariant.now e c.at-next.ensures.below

pub returns : goal.returns
returns c =
    let g = c.self.inside in
    cause_is c.args.self.now.group g.limit g.run.world g.run.position g.schedule g.module c.at-next.result c.cause_here.result c.self.invariant.now c.at-next.ensures.entry (ap (λ (u : Undoing). u.group) c.self.view_is) c.cause_here.ensures
