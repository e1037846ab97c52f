use Rattle.std.proofs.Common.{◌∙◌, ap, sym}
use Rattle.spv_stops.specs.Watches.{WatchKey}
use Rattle.spv_hits.proofs.ReadLemmas.{if_some, watched_there}
use Rattle.spv_hits.proofs.places.cell_of.Goals as goal

pub returns : goal.returns
returns c =
    let e = c.key.view_is in
    if_some c.global_cell.result _ _
    (λ x there frames. watched_there c.args.tables.now c.args.key.now c.args.memory.now frames c.key.inside.inv c.key.inside.variable c.key.inside.first c.key.inside.count x
    (ap (λ (y : WatchKey). y.inv) e) (ap (λ (y : WatchKey). y.variable) e) (ap (λ (y : WatchKey). y.first) e) (ap (λ (y : WatchKey). y.count) e)
    (sym (ap (λ (y : WatchKey). y.local) e) ∙ c.if-key.false) there)
    c.global_cell.ensures.cell
