use Rattle.spv_consts.proofs.WalkLimits.{limits_are_kept}
use Rattle.spv_consts.proofs.laws.limits.types_and_constants_keep_limits.Goals as goal

pub returns : goal.returns
returns c = limits_are_kept c.lengths_leave_types_sound.ensures.numbers c.limits_leave_leaves_whole.ensures.cells
