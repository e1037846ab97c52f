use Rattle.std.proofs.Common.{◌≡◌, ◌≤◌, ◌+◌, ◌∙◌, ap, subst}
use Rattle.spv_hits.specs.Halts.{told_before}
use Rattle.spv_probe.specs.Kits.{tests_of}
use Rattle.spv_races.specs.Costs.{order_cost, top_of, window_at}
use Rattle.spv_search.specs.Told.{has_probe}
use Rattle.spv_session.specs.View.{Settings}
use Rattle.spv_session.proofs.ProbeLemmas.{follows_held}
use Rattle.spv_session.proofs.orders.order_with.Goals as goal

pub order_of-answer-requires-clause-follows : goal.order_of-answer-requires-clause-follows
order_of-answer-requires-clause-follows g c =
    let held : c.replace.result.boxes.items ≡ c.args.kit.now.boxes.items = cc in
    (λ x. tt, follows_held (λ b. (goal.Probe-dyn g (b.vtable, b.value)).tally b.value) (λ b. (goal.Probe-dyn g (b.vtable, b.value)).test b.value) (told_before c.args.group.now.group) c.args.kit.now.boxes.items c.replace.result.boxes.items held c.requires.follows)

pub returns-clause-tests : goal.returns-clause-tests
returns-clause-tests g c =
    let held : c.replace.result.boxes.items ≡ c.args.kit.now.boxes.items = cc in
    c.order_of-answer.ensures.tests ∙ ap (tests_of (λ b. (goal.Probe-dyn g (b.vtable, b.value)).test b.value)) held

pub returns-clause-follows : goal.returns-clause-follows
returns-clause-follows g c = c.order_of-answer.ensures.follows.1

pub returns-clause-cost : goal.returns-clause-cost
returns-clause-cost g c =
    let held : c.replace.result.boxes.items ≡ c.args.kit.now.boxes.items = cc in
    subst (λ (k : Settings). c.order_of-answer.new.steps ≤ c.args.steps.now + order_cost (has_probe k) c.args.group.now.kept (window_at c.args.group.now (top_of c.args.group.now c.args.to)) c.args.group.now.group.position c.args.from c.args.to)
    (ap (tests_of (λ b. (goal.Probe-dyn g (b.vtable, b.value)).test b.value)) held) c.order_of-answer.ensures.cost
