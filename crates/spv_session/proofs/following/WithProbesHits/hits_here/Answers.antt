use Rattle.std.proofs.Common.{arith}
use Rattle.spv_hits.proofs.Exports.{told_below}
use Rattle.spv_session.proofs.following.WithProbesHits.hits_here.Goals as goal

pub halts-requires-clause-few : goal.halts-requires-clause-few
halts-requires-clause-few g c =
    told_below (λ b. (goal.Probe-dyn g (b.vtable, b.value)).tally b.value) (λ b. (goal.Probe-dyn g (b.vtable, b.value)).test b.value) c.args.group.now.group c.args.self.now.kit.boxes.items (omega arith) c.requires.follows.1
