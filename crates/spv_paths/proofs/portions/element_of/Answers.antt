use Rattle.spv_parts.specs.Kept.{kept_part}
use Rattle.spv_paths.specs.Kept.{kept_portion}
use Rattle.spv_paths.proofs.PortionLemmas.{element_found}
use Rattle.spv_paths.proofs.portions.element_of.Goals as goal

pub returns : goal.returns
returns c = element_found c.args.tables.now (kept_portion c.args.portion) (kept_part c.args.array) c.args.count c.args.index c.part_bits.result c.saturating_mul-before.result c.saturating_add.result
    (kept_part c.inner-part.result) c.ends.result c.if-index-count.false c.inner-part.ensures c.part_bits.ensures c.saturating_mul-before.ensures c.saturating_add.ensures c.ends.ensures
