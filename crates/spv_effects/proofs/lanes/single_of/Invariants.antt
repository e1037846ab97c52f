use Rattle.spv_effects.specs.Lanes.{of_lanes}
use Rattle.spv_effects.proofs.lanes.single_of.Given as goal

abbrev pub ghost-of : goal.ghost-of
ghost-of a = of_lanes a.cells.now
