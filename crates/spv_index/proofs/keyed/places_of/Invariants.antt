use Rattle.std.proofs.Common.{◌≡◌, ◌++◌, drop}
use Rattle.spv_index.specs.Places.{places_from}
use Rattle.spv_index.proofs.keyed.places_of.Given as goal

abbrev pub invariant-loop-n : goal.invariant-loop-n
invariant-loop-n l = l.places.items ++ places_from l.n (drop l.n l.keys) ≡ places_from 0 l.keys
