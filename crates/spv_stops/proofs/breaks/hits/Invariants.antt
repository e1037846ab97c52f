use Rattle.std.proofs.Common.{◌≡◌, take, map}
use Rattle.std.specs.Prelude.{filter}
use Rattle.spv_stops.specs.Stops.{number_of}
use Rattle.spv_stops.specs.Breaks.{has_head}
use Rattle.spv_stops.proofs.breaks.hits.Given as goal

abbrev pub invariant-loop-stop : goal.invariant-loop-stop
invariant-loop-stop l = l.numbers ≡ map number_of (filter (has_head l.pc) (take l.stop-index l.breaks))
