use Rattle.spv_group.proofs.Runs.{started}
use Rattle.spv_group.proofs.run.Run.start.Goals as goal

pub returns-clause-run : goal.returns-clause-run
returns-clause-run c =
    started c.args.m.now c.args.schedule.now c.args.limit c.in_ok-start.field-0 c.in_ok-start.ensures.start c.in_ok-start.ensures.sound c.requires.fits c.requires.limit
