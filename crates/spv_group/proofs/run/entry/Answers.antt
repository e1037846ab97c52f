use Rattle.std.proofs.Common.{arith}
use Rattle.spv_group.proofs.Runs.{place_within}
use Rattle.spv_group.proofs.run.entry.Goals as goal

pub returns-clause-below : goal.returns-clause-below
returns-clause-below c some =
    let within = place_within c.args.schedule.now.list c.args.position c.at.result c.at.ensures.entry some in
    omega arith
