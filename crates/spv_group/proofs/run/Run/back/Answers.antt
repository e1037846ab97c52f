use Rattle.std.proofs.Common.{◌-◌, arith}
use Rattle.spv_group.proofs.Runs.{went_back, WentBack}
use Rattle.spv_group.proofs.run.Run.back.Goals as goal

pub returns-clause-undone : goal.returns-clause-undone
returns-clause-undone c =
    let went : WentBack c.args.m.now c.args.schedule.now c.args.self.now.world.limit c.args.self.now.world c.args.self.now.position c.in_ok-happening.happening c.unstep.new.w
    = went_back c.args.m.now c.args.schedule.now c.args.self.now.world.limit c.args.self.now.world c.in_ok-happening.happening c.unstep.new.w c.in_ok-happening.ensures.undone c.unstep.ensures.ring c.unstep.ensures.limit c.args.self.now.position c.requires in
    (went.some, went.happening, omega arith)
