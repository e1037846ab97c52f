use Rattle.std.proofs.Common.{◌≡◌, ◌≤◌, ◌+◌, ◌∙◌, ap, subst}
use Rattle.spv_hits.specs.Halts.{told_before}
use Rattle.spv_probe.specs.Kits.{tests_of}
use Rattle.spv_search.specs.Told.{has_probe}
use Rattle.spv_session.specs.Costs.{straight_cost}
use Rattle.spv_session.specs.View.{Settings}
use Rattle.spv_session.proofs.ProbeLemmas.{follows_held}
use Rattle.spv_session.proofs.motions.go_with.Goals as goal

pub go_to-gone-requires-clause-follows : goal.go_to-gone-requires-clause-follows
go_to-gone-requires-clause-follows g c =
    let held : c.replace.result.boxes.items ≡ c.args.kit.now.boxes.items = cc in
    (λ x. tt, follows_held (λ b. (goal.Probe-dyn g (b.vtable, b.value)).tally b.value) (λ b. (goal.Probe-dyn g (b.vtable, b.value)).test b.value) (told_before c.args.group.now.group) c.args.kit.now.boxes.items c.replace.result.boxes.items held c.requires.follows)

pub returns-clause-tests : goal.returns-clause-tests
returns-clause-tests g c =
    let held : c.replace.result.boxes.items ≡ c.args.kit.now.boxes.items = cc in
    c.go_to-gone.ensures.tests ∙ ap (tests_of (λ b. (goal.Probe-dyn g (b.vtable, b.value)).test b.value)) held

pub returns-clause-follows : goal.returns-clause-follows
returns-clause-follows g c = c.go_to-gone.ensures.follows.1

pub returns-clause-cost : goal.returns-clause-cost
returns-clause-cost g c =
    let held : c.replace.result.boxes.items ≡ c.args.kit.now.boxes.items = cc in
    subst (λ (k : Settings). c.go_to-gone.new.steps ≤ c.args.steps.now + straight_cost (has_probe k) c.args.group.now.kept c.args.group.now.group c.args.target) (ap (tests_of (λ b. (goal.Probe-dyn g (b.vtable, b.value)).test b.value)) held) c.go_to-gone.ensures.cost
