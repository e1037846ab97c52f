use Rattle.std.proofs.Common.{ap}
use Rattle.spv_session.specs.View.{Viewing}
use Rattle.spv_session.proofs.ProbeLemmas.{follows_seen}
use Rattle.spv_session.proofs.session.Core.go.Goals as goal

pub go_with-requires-clause-follows : goal.go_with-requires-clause-follows
go_with-requires-clause-follows g c =
    follows_seen (λ b. (goal.Probe-dyn g (b.vtable, b.value)).tally b.value) (λ b. (goal.Probe-dyn g (b.vtable, b.value)).test b.value) c.args.kit.now.boxes.items c.args.self.now.view.group c.self.inside.group.group (ap (λ (x : Viewing). x.view.group) c.self.view_is) c.requires

pub returns-clause-follows : goal.returns-clause-follows
returns-clause-follows g c =
    follows_seen (λ b. (goal.Probe-dyn g (b.vtable, b.value)).tally b.value) (λ b. (goal.Probe-dyn g (b.vtable, b.value)).test b.value) c.go_with.new.kit.boxes.items c.go_with.new.group.group c.stop.new.self.view.group c.stop.ensures.group c.go_with.ensures.follows
