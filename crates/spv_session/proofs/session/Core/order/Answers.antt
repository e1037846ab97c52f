use Rattle.std.proofs.Common.{ap}
use Rattle.spv_session.specs.View.{Viewing}
use Rattle.spv_session.proofs.ProbeLemmas.{follows_seen}
use Rattle.spv_session.proofs.session.Core.order.Goals as goal

pub order_with-requires-clause-follows : goal.order_with-requires-clause-follows
order_with-requires-clause-follows g c =
    follows_seen (λ b. (goal.Probe-dyn g (b.vtable, b.value)).tally b.value) (λ b. (goal.Probe-dyn g (b.vtable, b.value)).test b.value) c.args.kit.now.boxes.items c.args.self.now.view.group c.self.inside.group.group (ap (λ (x : Viewing). x.view.group) c.self.view_is) c.requires
