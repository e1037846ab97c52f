use Rattle.std.proofs.Common.{◌≡◌, ◌≤◌, ◌+◌, ◌==◌, ◌∙◌, List, ℕ, ap, cond, not, subst, sym}
use Rattle.spv_dbg.specs.Tables.{Tables}
use Rattle.spv_stops.specs.Stops.{Stops}
use Rattle.spv_stops.specs.Watches.{WatchKey}
use Rattle.spv_stops.specs.declared.breaks.Breakpoint.{Breakpoint}
use Rattle.spv_group.specs.Group.{Held as Group}
use Rattle.spv_probe.specs.Kits.{tests_of}
use Rattle.spv_scopes.specs.Lines.{lines_of}
use Rattle.spv_search.specs.Costs.{forward_cost}
use Rattle.spv_search.specs.Keys.{tables_in}
use Rattle.spv_search.specs.Targets.{forward_target}
use Rattle.spv_hits.specs.Breaks.{break_numbers}
use Rattle.spv_hits.specs.Halts.{told_before}
use Rattle.spv_hits.specs.Kept.{IsNoted}
use Rattle.spv_hits.specs.Watches.{watch_numbers}
use Rattle.spv_session.specs.Motions.{hit_of, hit_told, no_hit}
use Rattle.spv_session.specs.View.{Settings}
use Rattle.spv_session.specs.declared.searches.Found.{Found}
use Rattle.spv_session.proofs.ProbeLemmas.{follows_held}
use Rattle.spv_session.proofs.SearchLemmas.{at_asked, event_told, found_hit, if_ok_then, on_ok_any, same_numbers, some_hit}
use Rattle.spv_session.proofs.searches.seek_on.Goals as goal

pub search_forward-stopped-requires-clause-follows : goal.search_forward-stopped-requires-clause-follows
search_forward-stopped-requires-clause-follows g c =
    let held : c.replace.result.boxes.items ≡ c.args.kit.now.boxes.items = cc in
    (λ x. tt, follows_held (λ b. (goal.Probe-dyn g (b.vtable, b.value)).tally b.value) (λ b. (goal.Probe-dyn g (b.vtable, b.value)).test b.value) (told_before c.args.group.now.group) c.args.kit.now.boxes.items c.replace.result.boxes.items held c.requires.follows)

pub found_at-requires-clause-event : goal.found_at-requires-clause-event
found_at-requires-clause-event g c =
    let asked = c.in_ok-hits.field-0 in
    event_told (IsNoted c.search_forward-stopped.new.hits.hits) (some_hit asked.tables asked.breaks asked.watches c.args.seeking.now.halts.now (tests_of (λ b. (goal.Probe-dyn g (b.vtable, b.value)).test b.value) c.replace.result.boxes.items)) c.args.group.now.group c.search_forward-stopped.new.group.group c.in_ok-stopped.field-0.event c.in_ok-stopped.ensures.event

pub found_at-requires-clause-lines : goal.found_at-requires-clause-lines
found_at-requires-clause-lines g c =
    subst (λ (x : Group). c.args.seeking.now.info.now.lines ≡ lines_of x.program.accepted (tables_in x)) (sym c.search_forward-stopped.ensures.same) c.requires.focus.lines

pub found_at-requires-clause-follows : goal.found_at-requires-clause-follows
found_at-requires-clause-follows g c = c.search_forward-stopped.ensures.follows.1

pub returns-clause-target : goal.returns-clause-target
returns-clause-target g c =
    let from = c.args.group.now.group in
    let to = c.search_forward-stopped.new.group.group in
    let asked = c.in_ok-hits.field-0 in
    let at = c.in_ok-hits.ensures in
    let bs = c.args.seeking.now.breaks.now in
    let ws = c.args.seeking.now.watches.now in
    let hs = c.args.seeking.now.halts.now in
    let tests = tests_of (λ b. (goal.Probe-dyn g (b.vtable, b.value)).test b.value) c.args.kit.now.boxes.items in
    let taken = tests_of (λ b. (goal.Probe-dyn g (b.vtable, b.value)).test b.value) c.replace.result.boxes.items in
    let held : c.replace.result.boxes.items ≡ c.args.kit.now.boxes.items = cc in
    let kept : taken ≡ tests = ap (tests_of (λ b. (goal.Probe-dyn g (b.vtable, b.value)).test b.value)) held in
    on_ok_any c.found_at.result _ (at_asked (λ (x : Tables) (y : Stops Breakpoint) (z : Stops WatchKey) (k : Settings) (i : ℕ). to.position ≡ forward_target (some_hit x y z hs k) c.args.command i from)
    asked.tables (tables_in from) asked.breaks bs asked.watches ws taken tests c.focus-focus.result.inv c.args.seeking.now.inv (at.tables ∙ c.requires.focus.tables) at.breaks at.watches kept c.focus-focus.ensures.inv c.in_ok-stopped.ensures.target)

pub returns-clause-hit : goal.returns-clause-hit
returns-clause-hit g c =
    let from = c.args.group.now.group in
    let to = c.search_forward-stopped.new.group.group in
    let asked = c.in_ok-hits.field-0 in
    let at = c.in_ok-hits.ensures in
    let bs = c.args.seeking.now.breaks.now in
    let ws = c.args.seeking.now.watches.now in
    let hs = c.args.seeking.now.halts.now in
    let tests = tests_of (λ b. (goal.Probe-dyn g (b.vtable, b.value)).test b.value) c.args.kit.now.boxes.items in
    let taken = tests_of (λ b. (goal.Probe-dyn g (b.vtable, b.value)).test b.value) c.replace.result.boxes.items in
    let held : c.replace.result.boxes.items ≡ c.args.kit.now.boxes.items = cc in
    let kept : taken ≡ tests = ap (tests_of (λ b. (goal.Probe-dyn g (b.vtable, b.value)).test b.value)) held in
    let left = c.search_forward-stopped.new.hits.hits in
    let followed = tests_of (λ b. (goal.Probe-dyn g (b.vtable, b.value)).test b.value) c.search_forward-stopped.new.hits.kit.boxes.items in
    let event = c.in_ok-stopped.field-0.event in
    let same = same_numbers (break_numbers asked.breaks to) (break_numbers left.breaks to) (watch_numbers asked.tables asked.watches to) (watch_numbers left.tables left.watches to) hs taken followed to
    (ap (λ (x : List ℕ × List ℕ × List ℕ). x.0) (c.search_forward-stopped.ensures.told to)) (ap (λ (x : List ℕ × List ℕ × List ℕ). x.1) (c.search_forward-stopped.ensures.told to)) c.search_forward-stopped.ensures.tests in
    if_ok_then c.found_at.result (λ (x : Found). x.hit ≡ hit_told c.position-from.result event (hit_of left.tables left.breaks left.watches hs followed) to)
    (λ (x : Found). x.hit ≡ cond (not (to.position == from.position)) (hit_of (tables_in from) bs ws hs tests to) no_hit)
    (λ x e. subst (λ (k : Settings). x.hit ≡ cond (not (to.position == from.position)) (hit_of (tables_in from) bs ws hs k to) no_hit) kept
    (found_hit from to c.position-from.result asked.tables left.tables asked.breaks left.breaks bs asked.watches left.watches ws hs taken followed (IsNoted left) event x.hit
    c.position-from.ensures.position (at.tables ∙ c.requires.focus.tables) at.breaks at.watches c.in_ok-stopped.ensures.event same e))
    c.found_at.ensures.hit

pub returns-clause-tests : goal.returns-clause-tests
returns-clause-tests g c =
    let held : c.replace.result.boxes.items ≡ c.args.kit.now.boxes.items = cc in
    c.search_forward-stopped.ensures.tests ∙ ap (tests_of (λ b. (goal.Probe-dyn g (b.vtable, b.value)).test b.value)) held

pub returns-clause-follows : goal.returns-clause-follows
returns-clause-follows g c = c.search_forward-stopped.ensures.follows.1

pub returns-clause-cost : goal.returns-clause-cost
returns-clause-cost g c =
    let from = c.args.group.now.group in
    let to = c.search_forward-stopped.new.group.group in
    let asked = c.in_ok-hits.field-0 in
    let at = c.in_ok-hits.ensures in
    let bs = c.args.seeking.now.breaks.now in
    let ws = c.args.seeking.now.watches.now in
    let hs = c.args.seeking.now.halts.now in
    let tests = tests_of (λ b. (goal.Probe-dyn g (b.vtable, b.value)).test b.value) c.args.kit.now.boxes.items in
    let taken = tests_of (λ b. (goal.Probe-dyn g (b.vtable, b.value)).test b.value) c.replace.result.boxes.items in
    let held : c.replace.result.boxes.items ≡ c.args.kit.now.boxes.items = cc in
    let kept : taken ≡ tests = ap (tests_of (λ b. (goal.Probe-dyn g (b.vtable, b.value)).test b.value)) held in
    (at_asked (λ (x : Tables) (y : Stops Breakpoint) (z : Stops WatchKey) (k : Settings) (i : ℕ). c.search_forward-stopped.new.steps ≤ c.args.steps.now + forward_cost from.position (forward_target (some_hit x y z hs k) c.args.command i from))
    asked.tables (tables_in from) asked.breaks bs asked.watches ws taken tests c.focus-focus.result.inv c.args.seeking.now.inv (at.tables ∙ c.requires.focus.tables) at.breaks at.watches kept c.focus-focus.ensures.inv c.search_forward-stopped.ensures.cost)

pub returns-in_err-stopped-clause-tests : goal.returns-in_err-stopped-clause-tests
returns-in_err-stopped-clause-tests g c =
    let held : c.replace.result.boxes.items ≡ c.args.kit.now.boxes.items = cc in
    c.search_forward-stopped.ensures.tests ∙ ap (tests_of (λ b. (goal.Probe-dyn g (b.vtable, b.value)).test b.value)) held

pub returns-in_err-stopped-clause-follows : goal.returns-in_err-stopped-clause-follows
returns-in_err-stopped-clause-follows g c = c.search_forward-stopped.ensures.follows.1

pub returns-in_err-stopped-clause-cost : goal.returns-in_err-stopped-clause-cost
returns-in_err-stopped-clause-cost g c =
    let from = c.args.group.now.group in
    let to = c.search_forward-stopped.new.group.group in
    let asked = c.in_ok-hits.field-0 in
    let at = c.in_ok-hits.ensures in
    let bs = c.args.seeking.now.breaks.now in
    let ws = c.args.seeking.now.watches.now in
    let hs = c.args.seeking.now.halts.now in
    let tests = tests_of (λ b. (goal.Probe-dyn g (b.vtable, b.value)).test b.value) c.args.kit.now.boxes.items in
    let taken = tests_of (λ b. (goal.Probe-dyn g (b.vtable, b.value)).test b.value) c.replace.result.boxes.items in
    let held : c.replace.result.boxes.items ≡ c.args.kit.now.boxes.items = cc in
    let kept : taken ≡ tests = ap (tests_of (λ b. (goal.Probe-dyn g (b.vtable, b.value)).test b.value)) held in
    (at_asked (λ (x : Tables) (y : Stops Breakpoint) (z : Stops WatchKey) (k : Settings) (i : ℕ). c.search_forward-stopped.new.steps ≤ c.args.steps.now + forward_cost from.position (forward_target (some_hit x y z hs k) c.args.command i from))
    asked.tables (tables_in from) asked.breaks bs asked.watches ws taken tests c.focus-focus.result.inv c.args.seeking.now.inv (at.tables ∙ c.requires.focus.tables) at.breaks at.watches kept c.focus-focus.ensures.inv c.search_forward-stopped.ensures.cost)
