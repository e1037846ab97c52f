use Rattle.std.proofs.Common.{◌≡◌, take, map}
use Rattle.spv_stops.specs.Stops.{number_of}
use Rattle.spv_stops.proofs.stops.Stops.numbers.Given as goal

abbrev pub invariant-loop-stop : goal.invariant-loop-stop
invariant-loop-stop g l = l.numbers ≡ map number_of (take l.stop-index l.self.0)
