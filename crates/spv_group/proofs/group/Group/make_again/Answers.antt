use Rattle.std.proofs.Common.{◌≡◌, ◌≤◌, ◌<◌, ◌+◌, ◌-◌, ℕ, Some, max, ap, refl, subst, arith}
use Rattle.spv_group.specs.Group.{Undoing, window_in}
use Rattle.spv_group.specs.History.{window}
use Rattle.spv_group.specs.Motion.{kept_in}
use Rattle.spv_group.specs.Run.{end_of, happening_before}
use Rattle.spv_group.proofs.Runs.{again_most, again_made, event_before}
use Rattle.spv_group.proofs.WindowLemmas.{windows_rise}
use Rattle.spv_group.proofs.group.Group.make_again.Goals as goal

pub returns-clause-kept : goal.returns-clause-kept
returns-clause-kept g c =
    let group = c.self.inside in
    let run = c.run_to.new.self in
    let from : c.in_ok-run.run'.position ≡ group.start.position = c.in_ok-run.ensures.position in
    let first : kept_in c.in_ok-run.run'.world c.in_ok-run.run'.position ≡ group.start.position = c.in_ok-run.ensures.kept in
    let start : group.start.position ≡ 0 = c.self.invariant.start in
    let to = c.in_ok-run_to.ensures.position in
    let room : c.in_ok-run.run'.world.limit ≡ group.limit = c.in_ok-run.ensures.run.room in
    let keeps : kept_in run.world run.position ≤ max (kept_in c.in_ok-run.run'.world c.in_ok-run.run'.position) (window group.limit group.module group.schedule.list run.position)
    = subst (λ (l : ℕ). kept_in run.world run.position ≤ max (kept_in c.in_ok-run.run'.world c.in_ok-run.run'.position) (window l group.module group.schedule.list run.position)) room c.run_to.ensures.kept in
    let rises : window group.limit group.module group.schedule.list run.position ≤ window group.limit group.module group.schedule.list group.run.position
    = windows_rise group.limit group.module group.schedule.list run.position group.run.position (omega arith) in
    let kept : kept_in run.world run.position ≤ window group.limit group.module group.schedule.list group.run.position = omega arith in
    rw c.replace.ensures (subst (λ (u : Undoing). kept_in run.world run.position ≤ window_in u) c.self.view_is kept)

pub returns-in_err-run_to-clause-cost : goal.returns-in_err-run_to-clause-cost
returns-in_err-run_to-clause-cost g c =
    let group = c.self.inside in
    let position : group.run.position ≡ c.args.self.now.group.position = ap (λ (u : Undoing). u.group.position) c.self.view_is in
    let from : c.in_ok-run.run'.position ≡ group.start.position = c.in_ok-run.ensures.position in
    let start : group.start.position ≡ 0 = c.self.invariant.start in
    let within : group.run.position ≤ end_of group.module group.schedule.list = c.self.invariant.now.within in
    let end : ℕ = end_of group.module group.schedule.list in
    let some : 0 < group.run.position = omega (arith, position, c.requires) in
    let zero_is : c.in_ok-run.run'.position ≡ 0 = omega (arith, from, start) in
    let most : c.run_to.new.steps ≤ c.args.steps.now + group.run.position
    = again_most end group.run.position c.in_ok-run.run'.position c.run_to.new.self.position c.args.steps.now c.run_to.new.steps zero_is within some c.run_to.ensures.counted c.run_to.ensures.cost in
    omega (arith, most, position)

pub returns-in_err-happening-clause-cost : goal.returns-in_err-happening-clause-cost
returns-in_err-happening-clause-cost g c =
    let group = c.self.inside in
    let position : group.run.position ≡ c.args.self.now.group.position = ap (λ (u : Undoing). u.group.position) c.self.view_is in
    let from : c.in_ok-run.run'.position ≡ group.start.position = c.in_ok-run.ensures.position in
    let start : group.start.position ≡ 0 = c.self.invariant.start in
    let within : group.run.position ≤ end_of group.module group.schedule.list = c.self.invariant.now.within in
    let end : ℕ = end_of group.module group.schedule.list in
    let some : 0 < group.run.position = omega (arith, position, c.requires) in
    let zero_is : c.in_ok-run.run'.position ≡ 0 = omega (arith, from, start) in
    let made = again_made end group.run.position c.in_ok-run.run'.position c.run_to.new.self.position c.args.steps.now c.run_to.new.steps zero_is within some c.run_to.ensures.counted c.run_to.ensures.cost c.in_ok-run_to.ensures.position in
    let there : c.run_to.new.self.position ≡ group.run.position - 1 = made.0 in
    let counted : c.run_to.new.steps ≡ c.args.steps.now + (group.run.position - 1) = made.1 in
    let more : c.next_happening.new.steps ≤ c.run_to.new.steps + 1 = c.next_happening.ensures.cost in
    omega (arith, counted, more, position, some)

pub returns-clause-happening : goal.returns-clause-happening
returns-clause-happening g c =
    let group = c.self.inside in
    let position : group.run.position ≡ c.args.self.now.group.position = ap (λ (u : Undoing). u.group.position) c.self.view_is in
    let from : c.in_ok-run.run'.position ≡ group.start.position = c.in_ok-run.ensures.position in
    let start : group.start.position ≡ 0 = c.self.invariant.start in
    let within : group.run.position ≤ end_of group.module group.schedule.list = c.self.invariant.now.within in
    let end : ℕ = end_of group.module group.schedule.list in
    let some : 0 < group.run.position = omega (arith, position, c.requires) in
    let zero_is : c.in_ok-run.run'.position ≡ 0 = omega (arith, from, start) in
    let made = again_made end group.run.position c.in_ok-run.run'.position c.run_to.new.self.position c.args.steps.now c.run_to.new.steps zero_is within some c.run_to.ensures.counted c.run_to.ensures.cost c.in_ok-run_to.ensures.position in
    let there : c.run_to.new.self.position ≡ group.run.position - 1 = made.0 in
    let counted : c.run_to.new.steps ≡ c.args.steps.now + (group.run.position - 1) = made.1 in
    let here = event_before group.module group.schedule.list group.run.position c.run_to.new.self.position c.in_ok-happening.happening some there c.in_ok-happening.ensures.event in
    subst (λ (u : Undoing). happening_before u.group.program u.group.schedule.list u.group.position ≡ Some c.in_ok-happening.happening) c.self.view_is here

pub returns-clause-cost : goal.returns-clause-cost
returns-clause-cost g c =
    let group = c.self.inside in
    let position : group.run.position ≡ c.args.self.now.group.position = ap (λ (u : Undoing). u.group.position) c.self.view_is in
    let from : c.in_ok-run.run'.position ≡ group.start.position = c.in_ok-run.ensures.position in
    let start : group.start.position ≡ 0 = c.self.invariant.start in
    let within : group.run.position ≤ end_of group.module group.schedule.list = c.self.invariant.now.within in
    let end : ℕ = end_of group.module group.schedule.list in
    let some : 0 < group.run.position = omega (arith, position, c.requires) in
    let zero_is : c.in_ok-run.run'.position ≡ 0 = omega (arith, from, start) in
    let made = again_made end group.run.position c.in_ok-run.run'.position c.run_to.new.self.position c.args.steps.now c.run_to.new.steps zero_is within some c.run_to.ensures.counted c.run_to.ensures.cost c.in_ok-run_to.ensures.position in
    let there : c.run_to.new.self.position ≡ group.run.position - 1 = made.0 in
    let counted : c.run_to.new.steps ≡ c.args.steps.now + (group.run.position - 1) = made.1 in
    let more : c.next_happening.new.steps ≤ c.run_to.new.steps + 1 = c.next_happening.ensures.cost in
    omega (arith, counted, more, position, some)

pub returns-clause-exact : goal.returns-clause-exact
returns-clause-exact g c =
    let group = c.self.inside in
    let position : group.run.position ≡ c.args.self.now.group.position = ap (λ (u : Undoing). u.group.position) c.self.view_is in
    let from : c.in_ok-run.run'.position ≡ group.start.position = c.in_ok-run.ensures.position in
    let start : group.start.position ≡ 0 = c.self.invariant.start in
    let within : group.run.position ≤ end_of group.module group.schedule.list = c.self.invariant.now.within in
    let end : ℕ = end_of group.module group.schedule.list in
    let some : 0 < group.run.position = omega (arith, position, c.requires) in
    let zero_is : c.in_ok-run.run'.position ≡ 0 = omega (arith, from, start) in
    let made = again_made end group.run.position c.in_ok-run.run'.position c.run_to.new.self.position c.args.steps.now c.run_to.new.steps zero_is within some c.run_to.ensures.counted c.run_to.ensures.cost c.in_ok-run_to.ensures.position in
    let there : c.run_to.new.self.position ≡ group.run.position - 1 = made.0 in
    let counted : c.run_to.new.steps ≡ c.args.steps.now + (group.run.position - 1) = made.1 in
    let more : c.next_happening.new.steps ≡ c.run_to.new.steps + 1 = c.in_ok-happening.ensures.exact refl in
    λ _. omega (arith, counted, more, position, some)
