use Rattle.std.proofs.Common.{subst}
use Rattle.spv_hits.specs.Kept.{Did}
use Rattle.spv_hits.proofs.AlikeLemmas.{nothing_done}
use Rattle.spv_hits.proofs.same.has_left_all.Goals as goal

pub returns-in-Some : goal.returns-in-Some
returns-in-Some c = λ e s u did.
    let x = c.in-Some.touched in
    let left = c.left_all.ensures e in
    nothing_done c.args.tables.now x.touch x.inv s u (subst (λ o. Did o s u) c.in-Some.is did) left.0 left.2 left.1
