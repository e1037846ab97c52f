use Rattle.std.proofs.Common.{◌≡◌, ◌∙◌, ◌<◌, ◌≤◌, ℕ, false, refl, sym, ap, arith}
use Rattle.spv_group.specs.Group.{Held as Group, group_at}
use Rattle.spv_search.specs.Keys.{depth_in}
use Rattle.spv_search.specs.Own.{own_next}
use Rattle.spv_search.specs.Targets.{passes_backward}
use Rattle.spv_search.proofs.BackLemmas.{back_begins, back_goes_on, first_group, looked_from}
use Rattle.spv_search.proofs.StopLemmas.{stop_found, stop_start}
use Rattle.spv_search.proofs.backward.search_kept.Goals as goal
use Rattle.spv_search.proofs.backward.search_kept.Goals.{else-looked-via-then-looked+else-left-from, else-looked-via-else-looked}

pub down-init : goal.down-init
down-init g c =
    let hit = g.H.Hits.hits c.args.hits.now in
    let i = c.args.search.now.focus.inv in
    let from = c.args.group.now in
    let p : ℕ = from.group.position in
    let test = passes_backward hit c.args.search.now.command i from.group in
    let few : p ≤ 4194304 = omega (arith, c.position-from.ensures.position, c.position-from.ensures.most) in
    record {
      back = back_begins test i from c.args.way.now c.requires.begun few;
      hits = c.in_ok-note.ensures.same;
      told = c.in_ok-note.ensures.told;
      suits = c.in_ok-note.ensures.suits;
      tests = c.in_ok-note.ensures.tests;
      follows = c.in_ok-note.ensures.follows c.args.group.now.group c.requires.follows;
      noted = c.in_ok-note.ensures.noted;
      counted = refl;
    }

pub returns-then-left-from-clause-stops : goal.returns-then-left-from-clause-stops
returns-then-left-from-clause-stops g c =
    let hit = g.H.Hits.hits c.args.hits.now in
    let i = c.args.search.now.focus.inv in
    let command = c.args.search.now.command in
    let from = c.args.group.now in
    let p : ℕ = from.group.position in
    let down = c.down.group in
    let back = c.down.invariant.back in
    let same : group_at p down.group ≡ from.group = first_group from down back.same in
    let depth : c.args.search.now.depth ≡ depth_in (group_at p down.group) i = c.requires.depth ∙ sym (ap (λ (x : Group). depth_in x i) same) in
    let below : down.group.position < p = omega (arith, c.if-left-from.true, c.position-left.ensures.position, c.position-from.ensures.position) in
    let done = c.in_ok-looked.ensures in
    let looked = looked_from (g.H.Hits.hits c.down.hits) hit command i p from.group down.group c.in_ok-looked.looked back.same same c.down.invariant.hits (done.looked p depth back.way below) in
    stop_found (g.H.Hits.noted c.make.new.hits) hit command i from down c.take_back.new.group c.make.new.group c.down.way c.in_ok-looked.looked c.in_ok-make.field-0 back below done.same done.position
    c.in_ok-make.ensures.gone (c.in_ok-make.ensures.noted c.take_back.new.group.group done.noted) looked c.if-looked.true

pub down-preserved : goal.down-preserved
down-preserved g c =
    let hit = g.H.Hits.hits c.args.hits.now in
    let i = c.args.search.now.focus.inv in
    let command = c.args.search.now.command in
    let from = c.args.group.now in
    let p : ℕ = from.group.position in
    let test = passes_backward hit command i from.group in
    let down = c.down.group in
    let back = c.down.invariant.back in
    let same : group_at p down.group ≡ from.group = first_group from down back.same in
    let depth : c.args.search.now.depth ≡ depth_in (group_at p down.group) i = c.requires.depth ∙ sym (ap (λ (x : Group). depth_in x i) same) in
    let done = c.in_ok-looked.ensures in
    let looked = λ (below : down.group.position < p). looked_from (g.H.Hits.hits c.down.hits) hit command i p from.group down.group c.in_ok-looked.looked back.same same c.down.invariant.hits (done.looked p depth back.way below) in
    let fails : down.group.position < p → test down.group.position ≡ false = λ below. elim c.else-looked.branch [
      | else-looked-via-then-looked+else-left-from w ↦ absurd (omega (arith, below, w.if-left-from.false, c.position-left.ensures.position, c.position-from.ensures.position))
      | else-looked-via-else-looked w ↦ sym (looked below).passes ∙ w.if-looked.false
    ] in
    record {
      back = back_goes_on test i from down c.take_back.new.group c.down.way c.take_back.new.way back done.same done.limit done.kept done.position (done.way p back.way back.earlier) done.few fails;
      hits = λ x. done.hits x ∙ c.down.invariant.hits x;
      told = λ x. done.told x ∙ c.down.invariant.told x;
      suits = λ p is. done.suits p (c.down.invariant.suits p is);
      tests = done.tests ∙ c.down.invariant.tests;
      follows = done.follows;
      noted = done.noted;
      counted = done.cost ∙ c.down.invariant.counted;
    }

pub returns-then-position-gt0-clause-stops : goal.returns-then-position-gt0-clause-stops
returns-then-position-gt0-clause-stops g c =
    let back = c.down.invariant.back in
    record {
      same = back.same;
      limit = back.limit;
      kept = back.kept;
      here = omega (arith, c.down-test.false, c.first_kept.ensures.kept, c.first_kept.ensures.within, c.position.ensures.position, back.kept);
      some = omega (arith, c.if-position-gt0.true, c.position-2.ensures.position);
      earlier = back.earlier;
      way = back.way;
      none = back.none;
    }

pub returns-then-from-gt0-clause-stops : goal.returns-then-from-gt0-clause-stops
returns-then-from-gt0-clause-stops g c =
    let hit = g.H.Hits.hits c.args.hits.now in
    let i = c.args.search.now.focus.inv in
    let command = c.args.search.now.command in
    let from = c.args.group.now in
    let p : ℕ = from.group.position in
    let down = c.down.group in
    let back = c.down.invariant.back in
    let start : down.group.position ≡ 0 = omega (arith, c.if-position-gt0.false, c.position-2.ensures.position) in
    let some : 0 < p = omega (arith, c.if-from-gt0.true, c.position-from.ensures.position) in
    let same : group_at p down.group ≡ from.group = first_group from down back.same in
    let next = c.holds_next-done.ensures i p down.group back.way (omega (arith, start, some)) ∙ ap (λ (x : Group). own_next command i x down.group) same in
    stop_start (g.H.Hits.noted c.down.hits) hit command i from down c.down.way c.holds_next-done.result back start some next
