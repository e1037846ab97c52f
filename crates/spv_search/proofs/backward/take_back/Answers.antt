use Rattle.std.proofs.Common.{◌+◌, ◌∙◌, ap}
use Rattle.spv_group.specs.Group.{group_at}
use Rattle.spv_search.proofs.CountLemmas.{one}
use Rattle.spv_search.proofs.BackLemmas.{looked_back, way_back}
use Rattle.spv_search.proofs.backward.take_back.Goals as goal

pub returns-clause-way : goal.returns-clause-way
returns-clause-way g c =
    let i = c.args.search.now.focus.inv in
    λ p way below. way_back i p c.args.group.now c.undo.new.group c.in_ok-happening.happening c.args.way.now (record { count = c.counted.result; next = c.moves-moved.result })
    c.in_ok-happening.ensures.returned way below (c.counted.ensures ∙ ap (λ b. c.args.way.now.count + one b) c.moves-moved.ensures) c.moves-moved.ensures

pub returns-clause-looked : goal.returns-clause-looked
returns-clause-looked g c =
    let s = c.args.search.now in
    let u = c.undo.new.group.group in
    let first = c.args.group.now.group in
    let back = c.in_ok-happening.ensures.returned in
    λ p depth way below. looked_back s.focus.tables.now (g.H.Hits.hits c.undo.new.hits) (g.H.Hits.hits c.args.hits.now) s.command s.focus.inv p u first c.in_ok-here.here c.args.way.now c.in_ok-looked.looked back.same back.position
    (λ x. c.in_ok-happening.ensures.hits x ∙ c.in_ok-leave.ensures.same x) (c.in_ok-here.ensures (group_at p first) depth) way below (c.in_ok-looked.ensures.looked p)
