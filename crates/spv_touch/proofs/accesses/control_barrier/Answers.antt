use Rattle.spv_touch.proofs.SeenLemmas.{barrier_seen, told_alone}
use Rattle.spv_touch.proofs.accesses.control_barrier.Goals as goal

pub returns : goal.returns
returns c = told_alone c.args.site.now c.untouching.result _ _ _ (barrier_seen c.args.site.now c.requires) c.in_ok-arrives.ensures c.inv.ensures c.untouching.ensures
