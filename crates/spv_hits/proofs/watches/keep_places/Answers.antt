use Rattle.std.proofs.Common.{◌<◌, ℕ, length, subst, sym, arith}
use Rattle.std.proofs.lemmas.Option.{slice_get_within}
use Rattle.spv_stops.specs.Watches.{WatchKey}
use Rattle.spv_hits.specs.Kept.{LiesAt}
use Rattle.spv_hits.specs.declared.places.Place.{Place}
use Rattle.spv_hits.proofs.NumberLemmas.{one_put}
use Rattle.spv_hits.proofs.watches.keep_places.Goals as goal

pub loop-n-preserved : goal.loop-n-preserved
loop-n-preserved c =
    let t = c.args.tables.now in
    let g = c.args.group.now.group in
    let x = c.index-watches-n.result in
    let place = c.in_ok-places.field-0 in
    let lies : LiesAt t x.1 place g = subst (λ (y : ℕ × WatchKey). LiesAt t y.1 place g) (sym c.index-watches-n.is) c.in_ok-places.ensures in
    one_put (λ m (w : ℕ × WatchKey) (p : Place). LiesAt t w.1 p g) c.args.watches.now c.loop-n.n x (omega arith) c.index-watches-n.is c.loop-n.places place c.loop-n.invariant lies

pub returns : goal.returns
returns c = λ n w place at there.
    let within : n < length c.args.watches.now = slice_get_within c.args.watches.now n w at in
    c.loop-n.invariant n w place (omega arith) at there
