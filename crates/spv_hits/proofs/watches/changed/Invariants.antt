use Rattle.std.proofs.Common.{◌≡◌, map, not, take}
use Rattle.std.specs.Prelude.{filter}
use Rattle.spv_group.specs.Group.{Held}
use Rattle.spv_hits.specs.Kept.{watched_by}
use Rattle.spv_hits.specs.Watches.{same_bits, watched}
use Rattle.spv_stops.specs.Stops.{number_of}
use Rattle.spv_hits.proofs.watches.changed.Given as goal

abbrev pub invariant-loop-n : goal.invariant-loop-n
invariant-loop-n l = (g : Held) → l.kept ≡ watched_by l.tables l.watches g
    → l.numbers ≡ map number_of (filter (λ w. not (same_bits (watched l.tables w.1 g) (watched l.tables w.1 l.group.group))) (take l.n l.watches))
