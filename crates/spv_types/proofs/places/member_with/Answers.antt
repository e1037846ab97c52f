use Rattle.std.proofs.Common.{arith}
use Rattle.std.proofs.lemmas.Grind.{common_steps}
use Rattle.spv_types.specs.Cells.{cells_of}
use Rattle.spv_types.proofs.PlaceLemmas.{begins_first}
use Rattle.spv_types.proofs.places.member_with.Goals as goal

pub loop-high-init : goal.loop-high-init
loop-high-init c = record {
  order = c.requires.some;
  inside = omega arith;
  begins = begins_first (cells_of c.args.types.now) c.args.members.now c.args.leaf;
  later = λ l. absurd (omega arith);
}

pub loop-high-preserved : goal.loop-high-preserved
loop-high-preserved c = grind (arith, common_steps)
