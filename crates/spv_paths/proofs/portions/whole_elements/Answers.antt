use Rattle.spv_parts.specs.Parts.{product, type_bits}
use Rattle.spv_paths.proofs.PortionLemmas.{whole_more, whole_twice}
use Rattle.spv_paths.proofs.portions.whole_elements.Goals as goal

pub loop-count-init : goal.loop-count-init
loop-count-init c = rw (c.divided-whole.ensures, c.type_bits.ensures) (whole_twice c.args.bits (type_bits c.args.tables.now c.args.part.base) (product c.args.tables.now c.args.part.counts.now))

pub loop-count-preserved : goal.loop-count-preserved
loop-count-preserved c = rw (c.divided-whole-in-loop-count.ensures, c.from.ensures, c.literal.ensures)
    (whole_more c.args.tables.now c.loop-count.whole c.loop-count.count-index c.args.part.counts.now _ c.loop-count-test.true c.loop-count.invariant)
