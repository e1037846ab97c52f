use Rattle.std.proofs.Common.{◌≡◌, ◌∙◌, ◌+◌, ◌-◌, ap, sym, subst}
use Rattle.std.specs.Prelude.{◌&&◌, Some}
use Rattle.std.proofs.lemmas.Result.{on_ok_weaker}
use Rattle.spv_group.specs.Group.{Held as Group, entries_in, group_at}
use Rattle.spv_group.specs.Run.{happening_at}
use Rattle.spv_search.specs.Again.{IsFoundOf, asks_for_next, passes_before}
use Rattle.spv_search.specs.Moves.{moves}
use Rattle.spv_search.specs.Own.{own_before}
use Rattle.spv_search.specs.Sights.{IsSeen}
use Rattle.spv_search.proofs.AgainLemmas.{again_more, added_at, here_done, here_passes}
use Rattle.spv_search.proofs.OwnLemmas.{back_again}
use Rattle.spv_search.proofs.again.go_past.Goals as goal
use Rattle.spv_search.proofs.again.go_past.Goals.{then-asks_for_next, else-asks_for_next}

pub look_here-requires-clause-seen : goal.look_here-requires-clause-seen
look_here-requires-clause-seen g c =
    let u = c.args.group.now.group in
    let now = c.make.new.group.group in
    let before : group_at (now.position - 1) now ≡ u = ap (λ (x : Group). group_at (x.position - 1) x) c.in_ok-happening.ensures.gone.same ∙ ap (λ n. group_at n u) (back_again u.position) in
    subst (λ (x : Group). IsSeen c.args.search.now.focus.tables.now c.args.search.now.command c.args.search.now.focus.inv x c.in_ok-before.before) (sym before) c.in_ok-before.ensures

pub returns-clause-found : goal.returns-clause-found
returns-clause-found g c =
    let i = c.args.search.now.focus.inv in
    let command = c.args.search.now.command in
    let from = c.args.search.now.position in
    let u = c.args.group.now.group in
    let n = u.position in
    let h = c.in_ok-happening.happening in
    let l = c.in_ok-looked.looked in
    let gone = c.in_ok-happening.ensures.gone in
    let moved : c.if-asks_for_next.moved ≡ (asks_for_next command && moves i h) = elim c.if-asks_for_next.branch [
      | then-asks_for_next w ↦ w.moved-is ∙ w.moves-moved.ensures ∙ sym (ap (λ b. b && moves i h) (sym c.asks_for_next.ensures ∙ w.if-asks_for_next.true))
      | else-asks_for_next w ↦ w.moved-is ∙ w.if-asks_for_next.false ∙ sym (ap (λ b. b && moves i h) (sym c.asks_for_next.ensures ∙ w.if-asks_for_next.false))
    ] in
    let on : c.make.new.group.group.position ≡ n + 1 = ap (λ (x : Group). x.position) gone.same in
    on_ok_weaker c.add.result
    (λ added. λ p first hit alike depth here is. (
    let same = λ (x : Group). sym (sym (c.in_ok-happening.ensures.hits x)) ∙ alike x in
    let there : c.make.new.group.group ≡ group_at (n + 1) first = gone.same ∙ ap (λ (x : Group). group_at (n + 1) x) here in
    let event : happening_at first.program (entries_in first) n ≡ Some h = subst (λ (x : Group). happening_at x.program (entries_in x) n ≡ Some h) here gone.event in
    let looked = c.in_ok-looked.ensures.looked p depth in
    let other = g.H.Hits.hits c.make.new.hits in
    subst (λ k. IsFoundOf hit command i p from first k c.add.new.found) (sym on)
    (again_more (passes_before hit command i p first) (λ m. own_before command i p (group_at m first)) (asks_for_next command) from first i n c.args.found.now c.add.new.found is h l c.if-asks_for_next.moved event
    (here_passes other hit command i from (n + 1) p first c.make.new.group.group l there looked same)
    (here_done other hit command i from (n + 1) p first c.make.new.group.group l there looked) moved
    (added_at c.position-event.result n l c.if-asks_for_next.moved c.args.found.now c.add.new.found c.position-event.ensures.position added))))
    c.add.ensures
