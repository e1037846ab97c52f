use Rattle.std.proofs.Common.{◌≡◌, ◌+◌, ◌<◌, ◌≤◌, length, ap, arith, take}
use Rattle.std.proofs.lemmas.Grind.{common_steps}
use Rattle.spv_types.specs.Rows.{leaves}
use Rattle.spv_effects.specs.Composites.{leaves_in}
use Rattle.spv_effects.proofs.CompositeLemmas.{joined_within}
use Rattle.spv_effects.proofs.composites.join_cells.Goals as goal

pub put_row-requires : goal.put_row-requires
put_row-requires c =
    let below : c.loop-part.part-index < length c.args.parts.now = omega arith in
    let within : leaves_in (take c.loop-part.part-index c.args.parts.now) + length (leaves c.part-item.result) ≤ leaves_in c.args.parts.now = joined_within c.args.parts.now c.loop-part.part-index c.part-item.result below c.part-item.is in
    let long : length c.cells-cells.result.now ≡ length (leaves c.part-item.result) = ap length c.cells-cells.ensures in
    let place = c.loop-part.invariant.place in
    omega arith

pub loop-part-preserved : goal.loop-part-preserved
loop-part-preserved c = grind (arith, common_steps)
