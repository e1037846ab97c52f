use Rattle.std.proofs.Common.{arith}
use Rattle.spv_expr.proofs.SizeLemmas.{known_long, last_long}
use Rattle.spv_expr.proofs.fronts.member_leaves.Goals as goal

pub returns-in-Some-clause-long : goal.returns-in-Some-clause-long
returns-in-Some-clause-long c = known_long c.args.types.now c.args.members.now c.args.k _ c.args.left c.in-Some.size c.requires.inside c.in-Some.ensures

pub returns-in-None-clause-long : goal.returns-in-None-clause-long
returns-in-None-clause-long c = last_long c.args.types.now c.args.members.now c.args.k c.args.left (let last = c.if-k-members.true in omega arith)
