use Rattle.std.proofs.Common.{◌≡◌, ◌∙◌, ◌<◌, Some, ap, length, rules, slice_get, sym}
use Rattle.std.proofs.lemmas.Option.{slice_get-get_or}
use Rattle.spv_statuses.proofs.CountLemmas.{within_counted}
use Rattle.spv_statuses.proofs.group.Statuses.exchange.Goals as goal

pub returns-clause-within : goal.returns-clause-within
returns-clause-within c =
    let inside : c.args.inv < length c.self.inside.list.items = search rules in
    let had : slice_get c.self.inside.list.items c.args.inv ≡ Some c.replace-old.result =
    slice_get-get_or c.self.inside.list.items c.args.inv c.index_mut.result.now inside ∙ ap Some (sym c.index_mut.ensures.value) ∙ ap Some (sym c.replace-old.ensures.value) in
    rw (← c.self.view_is) (within_counted c.self.inside.list.items c.args.inv c.replace-old.result c.self.inside.waiting.counts.items had c.self.invariant.2)
