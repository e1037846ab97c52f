use Rattle.std.proofs.Common.{◌≡◌, drop}
use Rattle.spv_expr.specs.Expressions.{evaluated}
use Rattle.spv_expr.specs.Kept.{kept_stack}
use Rattle.spv_expr.proofs.expressions.evaluated.Given as goal

abbrev pub invariant-loop-id : goal.invariant-loop-id
invariant-loop-id l = evaluated l.view.memory.now l.view.inv l.view.tables.now (drop l.id-index l.ids) (kept_stack l.stack)
    ≡ evaluated l.view.memory.now l.view.inv l.view.tables.now l.ids (kept_stack l.initial.stack)
