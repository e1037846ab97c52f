use Rattle.spv_expr.specs.Groups.{AreGroups}
use Rattle.spv_expr.proofs.groups.grouped.Given as goal

-- those of each variable so far
abbrev pub invariant-loop-n : goal.invariant-loop-n
invariant-loop-n l = AreGroups l.tables l.events l.n l.groups
