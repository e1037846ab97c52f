use Rattle.spv_frame.specs.Plans.{blank_of}
use Rattle.spv_frame.proofs.plans.blank_by.Given as goal

abbrev pub ghost-by : goal.ghost-by
ghost-by a = blank_of a._first.now.now
