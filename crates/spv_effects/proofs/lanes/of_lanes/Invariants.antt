use Rattle.spv_effects.specs.Lanes.{of_lanes}
use Rattle.spv_effects.proofs.lanes.of_lanes.Given as goal

abbrev pub ghost-new : goal.ghost-new
ghost-new a = of_lanes a.cells.items
