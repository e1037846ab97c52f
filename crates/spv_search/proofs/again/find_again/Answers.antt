use Rattle.std.proofs.Common.{◌≡◌, ◌∙◌, ◌+◌, ◌≤◌, ℕ, List, false, ap, inl, inr, refl, subst, arith}
use Rattle.std.specs.Prelude.{◌||◌}
use Rattle.spv_group.specs.Group.{Held as Group, group_at, window_in}
use Rattle.spv_group.proofs.Exports.{window_later}
use Rattle.spv_search.specs.Again.{IsFoundOf, asks_for_next, is_mover, later_of, mover_of, passes_before, wanted}
use Rattle.spv_search.specs.Own.{own_before}
use Rattle.spv_search.proofs.AgainLemmas.{again_begins}
use Rattle.spv_search.proofs.FoundLemmas.{again_target}
use Rattle.spv_search.proofs.OwnLemmas.{none_at_start}
use Rattle.spv_search.proofs.SearchLemmas.{again_enough}
use Rattle.spv_search.specs.Told.{has_probe}
use Rattle.spv_search.proofs.again.find_again.Goals as goal

pub up-init : goal.up-init
up-init g c =
    let i = c.args.search.now.focus.inv in
    let command = c.args.search.now.command in
    let first = c.args.group.now.group in
    let back = c.in_ok-return_to.ensures in
    let start : c.return_to.new.group.group.position ≡ 0 = back.target in
    record {
      same = back.same;
      limit = back.limit;
      until = omega (arith, start);
      kept = back.kept;
      counted = back.counted;
      cost = omega (arith, start, back.cost);
      hits = λ x. c.in_ok-note.ensures.same x ∙ back.hits x;
      told = λ x. c.in_ok-note.ensures.told x ∙ back.told x;
      suits = λ p is. c.in_ok-note.ensures.suits p (back.suits p is);
      tests = c.in_ok-note.ensures.tests ∙ back.tests;
      follows = c.in_ok-note.ensures.follows c.return_to.new.group.group back.follows;
      noted = c.in_ok-note.ensures.noted;
      found = λ p depth. again_begins (passes_before (g.H.Hits.hits c.args.hits.now) command i p first) (λ m. own_before command i p (group_at m first)) (asks_for_next command) c.args.search.now.position first i
          c.return_to.new.group.group.position (record { last = 0; done = false; movers = c.new.result }) start refl refl (none_at_start command i p (group_at 0 first) refl) c.new.ensures.items;
    }

pub up-preserved : goal.up-preserved
up-preserved g c =
    let hit = g.H.Hits.hits c.args.hits.now in
    let up = c.up.invariant in
    let done = c.in_ok-go_past.ensures in
    let on : c.go_past.new.group.group.position ≡ c.up.group.group.position + 1 = done.position in
    let rises : window_in c.up.group ≤ window_in c.go_past.new.group = window_later c.up.group c.go_past.new.group done.same done.limit (omega (arith, on)) in
    record {
      same = done.same ∙ ap (λ (x : Group). group_at c.go_past.new.group.group.position x) up.same;
      limit = done.limit ∙ up.limit;
      until = omega (arith, on, c.up-test.true, c.position.ensures.position);
      kept = omega (arith, done.kept, up.kept, rises);
      counted = omega (arith, done.exact, up.counted);
      cost = omega (arith, done.exact, up.cost, on);
      hits = λ x. done.hits x ∙ up.hits x;
      told = λ x. done.told x ∙ up.told x;
      suits = λ p is. done.suits p (up.suits p is);
      tests = done.tests ∙ up.tests;
      follows = done.follows;
      noted = done.noted;
      found = λ p depth. done.found p c.args.group.now.group hit up.hits depth up.same (up.found p depth);
    }

pub returns-in_err-go_past-clause-kept : goal.returns-in_err-go_past-clause-kept
returns-in_err-go_past-clause-kept g c =
    let up = c.up.invariant in
    let done = c.in_err-go_past.ensures in
    let later : c.up.group.group.position ≤ c.go_past.new.group.group.position = elim done.later [ inl e ↦ omega (arith, e) | inr e ↦ omega (arith, e) ] in
    let rises : window_in c.up.group ≤ window_in c.go_past.new.group = window_later c.up.group c.go_past.new.group done.same done.limit later in
    omega (arith, done.kept, up.kept, rises)

pub returns-clause-target : goal.returns-clause-target
returns-clause-target g c =
    let hit = g.H.Hits.hits c.args.hits.now in
    let i = c.args.search.now.focus.inv in
    let command = c.args.search.now.command in
    let f = c.up.found in
    let until = c.up.invariant.until in
    let there : c.up.group.group.position ≡ c.args.group.now.group.position = omega (arith, until, c.up-test.false, c.position.ensures.position, c.position-end.ensures.position) in
    let mover : c.mover_of-mover.result ≡ mover_of f.movers.items (wanted command c.args.way)
    = c.mover_of-mover.ensures ∙ ap (λ (l : List ℕ). mover_of l c.wanted.result) c.as_slice.ensures.value ∙ ap (mover_of f.movers.items) c.wanted.ensures in
    λ from position depth left next.
    again_target hit i from c.args.group.now c.args.way f c.target_of.result command c.up.group.group.position left next
    (subst (λ n. IsFoundOf hit command i from.group n c.args.group.now.group c.up.group.group.position f) position (c.up.invariant.found from.group depth)) there
    (c.target_of.ensures.position ∙ ap (λ m. later_of f.last m) mover) (c.target_of.ensures.done ∙ ap (λ m. is_mover f.last m || f.done) mover)

pub returns-in_err-return_to-clause-cost : goal.returns-in_err-return_to-clause-cost
returns-in_err-return_to-clause-cost g c =
    again_enough (has_probe (g.H.Hits.tests c.args.hits.now)) c.args.group.now.kept c.args.group.now.group.position 0 c.args.steps.now c.return_to.new.steps (omega arith) (omega (arith, c.in_err-return_to.ensures.cost))

pub returns-in_err-note-clause-cost : goal.returns-in_err-note-clause-cost
returns-in_err-note-clause-cost g c =
    again_enough (has_probe (g.H.Hits.tests c.args.hits.now)) c.args.group.now.kept c.args.group.now.group.position 0 c.args.steps.now c.return_to.new.steps (omega arith) (omega (arith, c.in_ok-return_to.ensures.cost))

pub returns-in_err-go_past-clause-cost : goal.returns-in_err-go_past-clause-cost
returns-in_err-go_past-clause-cost g c =
    let up = c.up.invariant in
    again_enough (has_probe (g.H.Hits.tests c.args.hits.now)) c.args.group.now.kept c.args.group.now.group.position (c.up.group.group.position + 1) c.args.steps.now c.go_past.new.steps
    (omega (arith, c.up-test.true, c.position.ensures.position, c.position-end.ensures.position)) (omega (arith, up.cost, c.in_err-go_past.ensures.cost))

pub returns-clause-cost : goal.returns-clause-cost
returns-clause-cost g c =
    let up = c.up.invariant in
    again_enough (has_probe (g.H.Hits.tests c.args.hits.now)) c.args.group.now.kept c.args.group.now.group.position c.up.group.group.position c.args.steps.now c.up.steps
    (omega (arith, up.until, c.position-end.ensures.position)) up.cost
