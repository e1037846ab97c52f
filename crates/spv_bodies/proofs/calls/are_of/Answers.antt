use Rattle.std.proofs.Common.{arith}
use Rattle.std.proofs.lemmas.Grind.{common_steps}
use Rattle.spv_bodies.proofs.CallLemmas.{are_of_few}
use Rattle.spv_bodies.proofs.calls.are_of.Goals as goal

pub loop-n-preserved : goal.loop-n-preserved
loop-n-preserved c = grind (arith, common_steps)

pub returns-then-types-operands : goal.returns-then-types-operands
returns-then-types-operands c = are_of_few c.args.context.now c.args.types.now c.args.operands.now c.if-types-operands.true
