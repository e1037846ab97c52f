use Rattle.std.proofs.Common.{◌∙◌, sym}
use Rattle.spv_state.proofs.Exports.{schedule_counts}
use Rattle.spv_group.proofs.group.Group.open_limited.Goals as goal

pub runs_of-requires-clause-fits : goal.runs_of-requires-clause-fits
runs_of-requires-clause-fits c = schedule_counts c.args.m.accepted c.args.m.setup c.args.schedule c.requires.fits ∙ sym (c.runs_start_with_all.ensures.all c.args.m)
