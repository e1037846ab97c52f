use Rattle.std.proofs.Common.{◌∙◌, ap}
use Rattle.spv_session.specs.View.{Viewing}
use Rattle.spv_session.proofs.NowLemmas.{kit_first, tests_first}
use Rattle.spv_session.proofs.ProbeLemmas.{kit_opened}
use Rattle.spv_session.proofs.session.Session.open.Goals as goal

pub returns-clause-follows : goal.returns-clause-follows
returns-clause-follows g c =
    kit_opened (λ b. (goal.Probe-dyn g (b.vtable, b.value)).tally b.value) (λ b. (goal.Probe-dyn g (b.vtable, b.value)).test b.value) c.args.probes.items c.in_ok-open.field-0.view c.in_ok-new.field-0.boxes.items
    (ap (λ (x : Viewing). x.view.group.position) c.in_ok-open.ensures ∙ c.requires.position) (ap (λ (x : Viewing). x.view.dropped) c.in_ok-open.ensures) c.in_ok-new.ensures.boxes c.in_ok-new.ensures.follows

pub returns-clause-tests : goal.returns-clause-tests
returns-clause-tests g c =
    tests_first (λ b. (goal.Probe-dyn g (b.vtable, b.value)).tally b.value) (λ b. (goal.Probe-dyn g (b.vtable, b.value)).test b.value) _ c.args.group c.in_ok-open.field-0 c.in_ok-new.field-0.boxes.items c.in_ok-open.ensures (returns-clause-follows g c)

pub returns-clause-own : goal.returns-clause-own
returns-clause-own g c =
    kit_first (λ b. (goal.Probe-dyn g (b.vtable, b.value)).tally b.value) (λ b. (goal.Probe-dyn g (b.vtable, b.value)).test b.value) _ c.args.group c.in_ok-open.field-0 c.in_ok-new.field-0.boxes.items c.in_ok-open.ensures (returns-clause-follows g c)
