use Rattle.spv_effects.specs.Lanes.{of_lanes}
use Rattle.spv_accesses.proofs.atomics.put.Given as goal

abbrev pub ghost-of : goal.ghost-of
ghost-of a = of_lanes a.cells.now
