use Rattle.std.proofs.Common.{arith}
use Rattle.spv_parts.specs.Composites.{is_named}
use Rattle.spv_parts.specs.Parts.{is_member}
use Rattle.spv_parts.proofs.CompositeLemmas.{number_first}
use Rattle.spv_parts.proofs.composites.number_named.Goals as goal

pub loop-id-init : goal.loop-id-init
loop-id-init c = record {
  within = omega arith;
  same = number_first (is_member c.args.tables.now c.args.n) (is_named c.args.tables.now c.args.name.now) c.args.ids.now;
}
