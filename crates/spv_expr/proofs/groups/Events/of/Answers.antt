use Rattle.std.proofs.Common.{List, length, subst}
use Rattle.spv_base.specs.declared.values.PassedEvent.{PassedEvent}
use Rattle.spv_expr.specs.Groups.{AreGroups}
use Rattle.spv_expr.proofs.groups.Events.of.Goals as goal

pub invariant_of-result : goal.invariant_of-result
invariant_of-result c =
    subst (λ (events : List PassedEvent). AreGroups c.args.tables.now events (length events) c.in_ok-groups.groups) c.events_in.ensures c.in_ok-groups.ensures
