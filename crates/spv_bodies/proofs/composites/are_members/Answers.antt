use Rattle.std.proofs.Common.{arith}
use Rattle.std.proofs.lemmas.Grind.{common_steps}
use Rattle.spv_bodies.proofs.CallLemmas.{are_members_few}
use Rattle.spv_bodies.proofs.composites.are_members.Goals as goal

pub loop-n-preserved : goal.loop-n-preserved
loop-n-preserved c = grind (arith, common_steps)

pub returns-then-members-operands : goal.returns-then-members-operands
returns-then-members-operands c = are_members_few c.args.context.now c.args.members.now c.args.operands.now c.if-members-operands.true
