use Rattle.std.proofs.Common.{◌∙◌, ap}
use Rattle.spv_statuses.specs.Group.{Held, first_waiting}
use Rattle.spv_statuses.proofs.BarrierLemmas.{first_where_none, none_where_some}
use Rattle.spv_statuses.proofs.group.Statuses.first_waiting.Goals as goal

pub returns-then-self-eq0 : goal.returns-then-self-eq0
returns-then-self-eq0 c = first_where_none c.self.inside.list.items c.args.self.now.list c.self.inside.moving _ (ap (λ (s : Held). s.list) c.self.view_is) c.self.invariant.0 c.if-self-eq0.true (c.first_waiting.ensures ∙ ap first_waiting c.deref.ensures.value)

pub returns-else-self-eq0 : goal.returns-else-self-eq0
returns-else-self-eq0 c = none_where_some c.self.inside.list.items c.args.self.now.list c.self.inside.moving (ap (λ (s : Held). s.list) c.self.view_is) c.self.invariant.0 c.if-self-eq0.false
