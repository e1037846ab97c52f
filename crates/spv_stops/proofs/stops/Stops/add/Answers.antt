use Rattle.std.proofs.Common.{◌<◌, ◌+◌, length, sym, subst, arith}
use Rattle.spv_stops.specs.Stops.{Stops, AreStops}
use Rattle.spv_stops.proofs.StopLemmas.{stops_push}
use Rattle.spv_stops.proofs.stops.Stops.add.Goals as goal

pub invariant_of-self-2 : goal.invariant_of-self-2
invariant_of-self-2 g c =
    let stops : Stops _ = (c.self.inside.kept.items, c.self.inside.given) in
    let room : length stops.0 < g.row.MOST = omega arith in
    let left : stops.1 < 4294967295 = omega arith in
    subst (λ items. AreStops g.row.MOST (items, c.self.inside.given + 1)) (sym c.in_ok-push.ensures.items) (stops_push g.row.MOST stops c.args.stop c.self.invariant room left)
