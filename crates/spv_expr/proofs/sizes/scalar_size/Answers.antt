use Rattle.std.proofs.Common.{arith}
use Rattle.std.proofs.lemmas.Grind.{common_steps}
use Rattle.spv_expr.proofs.SizeLemmas.{scalar_long}
use Rattle.spv_expr.proofs.sizes.scalar_size.Goals as goal

pub returns-else-width-eq1 : goal.returns-else-width-eq1
returns-else-width-eq1 c = scalar_long c.args.width c.from-bits.result (let e = c.from-bits.ensures in let other = c.if-width-eq1.false in grind (arith, common_steps))
