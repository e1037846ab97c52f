use Rattle.std.proofs.Common.{◌∙◌, ◌<◌, ◌*◌, ◌/◌, ℕ, ap, arith}
use Rattle.spv_base.specs.Saturation.{saturated}
use Rattle.spv_parts.specs.Parts.{product, type_bits}
use Rattle.spv_print.proofs.WholeLemmas.{count_some, next_whole, parts_some}
use Rattle.spv_print.proofs.writers.whole_in.Goals as goal

pub nonzero_div-whole-in-loop-count : goal.nonzero_div-whole-in-loop-count
nonzero_div-whole-in-loop-count c =
    let t = c.args.tables.now in
    let counts = c.args.element.counts.now in
    let some : 0 < saturated (type_bits t c.args.element.base * product t counts) = omega (arith, c.part_bits.ensures, c.if-part_bits-eq0.false) in
    let one = count_some t counts c.loop-count.count-index 0 c.loop-count-test.true (parts_some t (type_bits t c.args.element.base) counts some).1 in
    rw (c.from-whole.ensures, c.literal.ensures) one

pub loop-count-preserved : goal.loop-count-preserved
loop-count-preserved c =
    let t = c.args.tables.now in
    let next = next_whole t c.args.bits (type_bits t c.args.element.base) c.loop-count.whole c.loop-count.count-index 0 c.args.element.counts.now c.loop-count-test.true c.loop-count.invariant in
    ap (λ (n : ℕ). c.loop-count.whole / n) (c.from-whole.ensures ∙ c.literal.ensures) ∙ next
