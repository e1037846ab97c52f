use Rattle.std.proofs.Common.{◌≡◌, Some, arith}
use Rattle.std.proofs.lemmas.Grind.{common_steps}
use Rattle.spv_base.specs.Entries.{reads}
use Rattle.spv_stops.proofs.HaltLemmas.{asks_some}
use Rattle.spv_stops.proofs.halts.Halts.hit.Goals as goal

pub nonzero_rem-result : goal.nonzero_rem-result
nonzero_rem-result c =
    let found : reads c.args.k c.self.inside.halts.items ≡ Some c.in-Some.n.now = grind (arith, common_steps) in
    let some = asks_some c.args.k c.in-Some.n.now c.self.inside.halts.items c.self.invariant found in
    omega arith
