use Rattle.spv_touch.proofs.SeenLemmas.{copy_seen, told_parts}
use Rattle.spv_touch.proofs.accesses.copy_memory.Goals as goal

pub returns : goal.returns
returns c = told_parts c.args.site.now c.accessing.result _ _ _ _ (copy_seen c.args.site.now c.requires) c.in_ok-reads.ensures c.in_ok-writes.ensures c.accessing.ensures
