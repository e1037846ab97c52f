use Rattle.std.proofs.Common.{◌≡◌, ◌∙◌, ◌+◌, ◌≤◌, ap, arith}
use Rattle.spv_group.specs.Group.{Held as Group, Undoing, end_in}
use Rattle.spv_search.specs.Targets.{passes_forward}
use Rattle.spv_search.proofs.CountLemmas.{one}
use Rattle.spv_search.proofs.ForwardLemmas.{count_on, onward_begins, onward_ends, onward_found, onward_goes_on, onward_kept, onward_takes, position_on, same_on, stays_takes, test_there}
use Rattle.spv_search.proofs.StopLemmas.{ended_done, ended_told, moved_forward}
use Rattle.spv_search.proofs.forward.search_forward.Goals as goal

pub up-init : goal.up-init
up-init g c =
    let hit = g.H.Hits.hits c.args.hits.now in
    let i = c.args.focus.now.inv in
    let from = c.args.group.now in
    let within : from.group.position ≤ end_in from.group = omega (arith, c.position-position.ensures.position, c.position-position.ensures.within) in
    record {
      on = onward_begins (passes_forward hit c.args.command i from.group) i from c.args.steps.now within;
      hits = c.in_ok-note.ensures.same;
      told = c.in_ok-note.ensures.told;
      suits = c.in_ok-note.ensures.suits;
      tests = c.in_ok-note.ensures.tests;
      follows = c.in_ok-note.ensures.follows c.args.group.now.group c.requires.follows;
      noted = c.in_ok-note.ensures.noted;
      from = c.in_ok-from.ensures;
    }

pub returns-in_err-happening-clause-cost : goal.returns-in_err-happening-clause-cost
returns-in_err-happening-clause-cost g c =
    let hit = g.H.Hits.hits c.args.hits.now in
    let i = c.args.focus.now.inv in
    let test = passes_forward hit c.args.command i c.args.group.now.group in
    let from = c.args.group.now in
    let on = c.up.invariant.on in
    (stays_takes test i from c.up.group c.up.count c.args.steps.now c.up.steps on c.go_on.new.steps (omega (arith, c.in_err-happening.ensures.counted)) c.in_err-happening.ensures.cost).1

pub returns-in_err-looked-clause-kept : goal.returns-in_err-looked-clause-kept
returns-in_err-looked-clause-kept g c =
    let hit = g.H.Hits.hits c.args.hits.now in
    let i = c.args.focus.now.inv in
    let test = passes_forward hit c.args.command i c.args.group.now.group in
    let from = c.args.group.now in
    let on = c.up.invariant.on in
    let gone = rw c.in-Some.is at c.in_ok-happening.ensures.goes in
    let h = c.in-Some.happening in
    let counted = c.counted-count.ensures ∙ ap (λ b. c.up.count + one b) c.moves.ensures in
    let next = c.go_on.new.group in
    let here : next.group.position ≡ c.up.group.group.position + 1 = position_on test i from c.up.group next c.up.count c.args.steps.now c.up.steps h on gone c.counted-count.result counted in
    let more : c.go_on.new.steps ≡ c.up.steps + 1 = omega (arith, here, c.in_ok-happening.ensures.counted, c.in_ok-happening.ensures.cost) in
    onward_kept test i from c.up.group next c.up.count c.args.steps.now c.up.steps h on gone c.counted-count.result counted

pub returns-in_err-looked-clause-cost : goal.returns-in_err-looked-clause-cost
returns-in_err-looked-clause-cost g c =
    let hit = g.H.Hits.hits c.args.hits.now in
    let i = c.args.focus.now.inv in
    let test = passes_forward hit c.args.command i c.args.group.now.group in
    let from = c.args.group.now in
    let on = c.up.invariant.on in
    let gone = rw c.in-Some.is at c.in_ok-happening.ensures.goes in
    let h = c.in-Some.happening in
    let counted = c.counted-count.ensures ∙ ap (λ b. c.up.count + one b) c.moves.ensures in
    let next = c.go_on.new.group in
    let here : next.group.position ≡ c.up.group.group.position + 1 = position_on test i from c.up.group next c.up.count c.args.steps.now c.up.steps h on gone c.counted-count.result counted in
    let more : c.go_on.new.steps ≡ c.up.steps + 1 = omega (arith, here, c.in_ok-happening.ensures.counted, c.in_ok-happening.ensures.cost) in
    (onward_takes test i from c.up.group next c.up.count c.args.steps.now c.up.steps h on gone c.counted-count.result counted c.go_on.new.steps more).1

pub returns-then-looked-clause-target : goal.returns-then-looked-clause-target
returns-then-looked-clause-target g c =
    let hit = g.H.Hits.hits c.args.hits.now in
    let i = c.args.focus.now.inv in
    let test = passes_forward hit c.args.command i c.args.group.now.group in
    let from = c.args.group.now in
    let on = c.up.invariant.on in
    let gone = rw c.in-Some.is at c.in_ok-happening.ensures.goes in
    let h = c.in-Some.happening in
    let counted = c.counted-count.ensures ∙ ap (λ b. c.up.count + one b) c.moves.ensures in
    let next = c.go_on.new.group in
    let here : next.group.position ≡ c.up.group.group.position + 1 = position_on test i from c.up.group next c.up.count c.args.steps.now c.up.steps h on gone c.counted-count.result counted in
    let more : c.go_on.new.steps ≡ c.up.steps + 1 = omega (arith, here, c.in_ok-happening.ensures.counted, c.in_ok-happening.ensures.cost) in
    let same = same_on test i from c.up.group next c.up.count c.args.steps.now c.up.steps h on gone c.counted-count.result counted in
    let looked = c.in_ok-looked.ensures.looked from.group c.up.invariant.from (count_on test i from c.up.group next c.up.count c.args.steps.now c.up.steps h on gone c.counted-count.result counted) in
    let passes = test_there (g.H.Hits.hits c.go_on.new.hits) hit c.args.command i from.group next.group c.in_ok-looked.looked.passes same (λ x. c.in_ok-happening.ensures.hits x ∙ c.up.invariant.hits x)
    looked.passes in
    onward_found test i from c.up.group next c.up.count c.args.steps.now c.up.steps h on gone c.counted-count.result counted (passes ∙ c.if-looked.true)

pub returns-then-looked-clause-kept : goal.returns-then-looked-clause-kept
returns-then-looked-clause-kept g c =
    let hit = g.H.Hits.hits c.args.hits.now in
    let i = c.args.focus.now.inv in
    let test = passes_forward hit c.args.command i c.args.group.now.group in
    let from = c.args.group.now in
    let on = c.up.invariant.on in
    let gone = rw c.in-Some.is at c.in_ok-happening.ensures.goes in
    let h = c.in-Some.happening in
    let counted = c.counted-count.ensures ∙ ap (λ b. c.up.count + one b) c.moves.ensures in
    let next = c.go_on.new.group in
    let here : next.group.position ≡ c.up.group.group.position + 1 = position_on test i from c.up.group next c.up.count c.args.steps.now c.up.steps h on gone c.counted-count.result counted in
    let more : c.go_on.new.steps ≡ c.up.steps + 1 = omega (arith, here, c.in_ok-happening.ensures.counted, c.in_ok-happening.ensures.cost) in
    onward_kept test i from c.up.group next c.up.count c.args.steps.now c.up.steps h on gone c.counted-count.result counted

pub returns-then-looked-clause-cost : goal.returns-then-looked-clause-cost
returns-then-looked-clause-cost g c =
    let hit = g.H.Hits.hits c.args.hits.now in
    let i = c.args.focus.now.inv in
    let test = passes_forward hit c.args.command i c.args.group.now.group in
    let from = c.args.group.now in
    let on = c.up.invariant.on in
    let gone = rw c.in-Some.is at c.in_ok-happening.ensures.goes in
    let h = c.in-Some.happening in
    let counted = c.counted-count.ensures ∙ ap (λ b. c.up.count + one b) c.moves.ensures in
    let next = c.go_on.new.group in
    let here : next.group.position ≡ c.up.group.group.position + 1 = position_on test i from c.up.group next c.up.count c.args.steps.now c.up.steps h on gone c.counted-count.result counted in
    let more : c.go_on.new.steps ≡ c.up.steps + 1 = omega (arith, here, c.in_ok-happening.ensures.counted, c.in_ok-happening.ensures.cost) in
    (onward_takes test i from c.up.group next c.up.count c.args.steps.now c.up.steps h on gone c.counted-count.result counted c.go_on.new.steps more).1

pub returns-then-looked-clause-done : goal.returns-then-looked-clause-done
returns-then-looked-clause-done g c =
    let hit = g.H.Hits.hits c.args.hits.now in
    let i = c.args.focus.now.inv in
    let test = passes_forward hit c.args.command i c.args.group.now.group in
    let from = c.args.group.now in
    let on = c.up.invariant.on in
    let gone = rw c.in-Some.is at c.in_ok-happening.ensures.goes in
    let h = c.in-Some.happening in
    let counted = c.counted-count.ensures ∙ ap (λ b. c.up.count + one b) c.moves.ensures in
    let next = c.go_on.new.group in
    let here : next.group.position ≡ c.up.group.group.position + 1 = position_on test i from c.up.group next c.up.count c.args.steps.now c.up.steps h on gone c.counted-count.result counted in
    let looked = c.in_ok-looked.ensures.looked from.group c.up.invariant.from (count_on test i from c.up.group next c.up.count c.args.steps.now c.up.steps h on gone c.counted-count.result counted) in
    moved_forward c.args.command i from.group next.group c.in_ok-looked.looked.done (omega (arith, here, on.later)) looked.done

pub up-preserved : goal.up-preserved
up-preserved g c =
    let hit = g.H.Hits.hits c.args.hits.now in
    let i = c.args.focus.now.inv in
    let test = passes_forward hit c.args.command i c.args.group.now.group in
    let from = c.args.group.now in
    let on = c.up.invariant.on in
    let gone = rw c.in-Some.is at c.in_ok-happening.ensures.goes in
    let h = c.in-Some.happening in
    let counted = c.counted-count.ensures ∙ ap (λ b. c.up.count + one b) c.moves.ensures in
    let next = c.go_on.new.group in
    let here : next.group.position ≡ c.up.group.group.position + 1 = position_on test i from c.up.group next c.up.count c.args.steps.now c.up.steps h on gone c.counted-count.result counted in
    let more : c.go_on.new.steps ≡ c.up.steps + 1 = omega (arith, here, c.in_ok-happening.ensures.counted, c.in_ok-happening.ensures.cost) in
    let same = same_on test i from c.up.group next c.up.count c.args.steps.now c.up.steps h on gone c.counted-count.result counted in
    let looked = c.in_ok-looked.ensures.looked from.group c.up.invariant.from (count_on test i from c.up.group next c.up.count c.args.steps.now c.up.steps h on gone c.counted-count.result counted) in
    let passes = test_there (g.H.Hits.hits c.go_on.new.hits) hit c.args.command i from.group next.group c.in_ok-looked.looked.passes same (λ x. c.in_ok-happening.ensures.hits x ∙ c.up.invariant.hits x)
    looked.passes in
    record {
      on = onward_goes_on test i from c.up.group next c.up.count c.args.steps.now c.up.steps h on gone c.counted-count.result counted c.go_on.new.steps more (passes ∙ c.if-looked.false);
      hits = λ x. c.in_ok-looked.ensures.hits x ∙ (c.in_ok-happening.ensures.hits x ∙ c.up.invariant.hits x);
      told = λ x. c.in_ok-looked.ensures.told x ∙ (c.in_ok-happening.ensures.told x ∙ c.up.invariant.told x);
      suits = λ p is. c.in_ok-looked.ensures.suits p (c.in_ok-happening.ensures.suits p (c.up.invariant.suits p is));
      tests = c.in_ok-looked.ensures.tests ∙ (c.in_ok-happening.ensures.tests ∙ c.up.invariant.tests);
      follows = c.in_ok-looked.ensures.follows;
      noted = rw c.if-looked.false at c.in_ok-looked.ensures.noted;
      from = c.up.invariant.from;
    }

pub returns-clause-target : goal.returns-clause-target
returns-clause-target g c =
    let hit = g.H.Hits.hits c.args.hits.now in
    let i = c.args.focus.now.inv in
    let test = passes_forward hit c.args.command i c.args.group.now.group in
    let from = c.args.group.now in
    let on = c.up.invariant.on in
    let ended = rw c.in_default.is at c.in_ok-happening.ensures.goes in
    let end : c.up.group.group.position ≡ end_in from.group = ended.0 ∙ ap (λ (x : Group). end_in x) on.same in
    ap (λ (u : Undoing). u.group.position) ended.1 ∙ onward_ends test i from c.up.group c.up.count c.args.steps.now c.up.steps on end

pub returns-clause-cost : goal.returns-clause-cost
returns-clause-cost g c =
    let hit = g.H.Hits.hits c.args.hits.now in
    let i = c.args.focus.now.inv in
    let test = passes_forward hit c.args.command i c.args.group.now.group in
    let from = c.args.group.now in
    let on = c.up.invariant.on in
    (stays_takes test i from c.up.group c.up.count c.args.steps.now c.up.steps on c.go_on.new.steps (omega (arith, c.in_ok-happening.ensures.counted)) c.in_ok-happening.ensures.cost).1

pub returns-clause-done : goal.returns-clause-done
returns-clause-done g c =
    let hit = g.H.Hits.hits c.args.hits.now in
    let i = c.args.focus.now.inv in
    let from = c.args.group.now in
    let stays = rw c.in_default.is at c.in_ok-happening.ensures.goes in
    ended_done hit c.args.command i from c.up.group c.go_on.new.group c.up.count c.args.steps.now c.up.steps c.up.invariant.on stays.1

pub returns-clause-event : goal.returns-clause-event
returns-clause-event g c =
    let hit = g.H.Hits.hits c.args.hits.now in
    let i = c.args.focus.now.inv in
    let from = c.args.group.now in
    let stays = rw c.in_default.is at c.in_ok-happening.ensures.goes in
    ended_told (g.H.Hits.noted c.go_on.new.hits) hit c.args.command i from c.up.group c.go_on.new.group c.up.count c.args.steps.now c.up.steps c.up.invariant.on stays.1
