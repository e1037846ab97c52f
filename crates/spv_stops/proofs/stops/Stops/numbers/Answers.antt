use Rattle.std.proofs.Common.{arith}
use Rattle.std.proofs.lemmas.Grind.{common_steps}
use Rattle.spv_stops.proofs.stops.Stops.numbers.Goals as goal

pub loop-stop-preserved : goal.loop-stop-preserved
loop-stop-preserved g c = grind (arith, common_steps)
