use Rattle.std.proofs.Common.{List, Some, ap}
use Rattle.spv_order.specs.declared.events.Leaves.{Leaves}
use Rattle.spv_touch.proofs.SeenLemmas.{load_seen, told_parts}
use Rattle.spv_touch.proofs.accesses.load.Goals as goal

pub returns : goal.returns
returns c =
    told_parts c.args.site.now c.accessing.result _ _ _ _ (load_seen c.args.site.now c.requires) c.in_ok-reads.ensures (ap (λ (l : List Leaves). Some l) c.new.ensures.items) c.accessing.ensures
