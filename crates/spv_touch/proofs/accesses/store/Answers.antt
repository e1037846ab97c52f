use Rattle.std.specs.Option.{is_some}
use Rattle.spv_sites.specs.Sites.{values}
use Rattle.spv_touch.proofs.SeenLemmas.{chosen_leaves, store_seen, told_parts}
use Rattle.spv_touch.proofs.accesses.store.Goals as goal

pub returns : goal.returns
returns c =
    told_parts c.args.site.now c.accessing.result _ _ _ _ (store_seen c.args.site.now c.requires)
    (chosen_leaves (λ r. r.items) c.in_ok-has_value.field-0 (is_some (values c.args.site.now 1)) c.new.result c.then_some-reads.result c.then_some-reads.ensures c.in_ok-has_value.ensures c.new.ensures.items)
    c.in_ok-writes.ensures c.accessing.ensures
