use Rattle.std.proofs.Common.{◌∙◌, ◌+◌, ap, false, sym}
use Rattle.spv_group.specs.Group.{group_at}
use Rattle.spv_hits.specs.Hits.{has_some}
use Rattle.spv_hits.proofs.HitLemmas.{hit_by_watch, hits_by_behind, idle_behind, if_ok, noted_same, noted_unwatched, same_behind, same_left, unwatched_here}
use Rattle.spv_hits.proofs.hits.StopHitsHits.hits_behind.Goals as goal

pub returns-then-watches_nothing-clause-hit : goal.returns-then-watches_nothing-clause-hit
returns-then-watches_nothing-clause-hit c =
    let s = c.args.self.now in
    let g = c.args.group.now.group in
    hit_by_watch s.tables s.breaks s.watches (group_at (g.position + 1) g) false (sym c.breaks_behind.ensures ∙ c.if-breaks_behind.false)
    (sym (ap has_some (unwatched_here s.tables s.watches (group_at (g.position + 1) g) (c.watches_nothing.ensures.none c.if-watches_nothing.true))))

pub returns-then-watches_nothing-clause-noted : goal.returns-then-watches_nothing-clause-noted
returns-then-watches_nothing-clause-noted c = λ e.
    let g = c.args.group.now.group in
    noted_unwatched c.args.self.now (group_at (g.position + 1) g) g (c.watches_nothing.ensures.none c.if-watches_nothing.true) c.requires.left.noted

pub returns-then-is_idle-clause-hit : goal.returns-then-is_idle-clause-hit
returns-then-is_idle-clause-hit c =
    let s = c.args.self.now in
    let g = c.args.group.now.group in
    hit_by_watch s.tables s.breaks s.watches (group_at (g.position + 1) g) false (sym c.breaks_behind.ensures ∙ c.if-breaks_behind.false)
    (sym (ap has_some (idle_behind s.tables s.watches g g.position c.args.happening.now c.requires.event (sym c.is_idle.ensures ∙ c.if-is_idle.true))))

pub returns-then-is_idle-clause-noted : goal.returns-then-is_idle-clause-noted
returns-then-is_idle-clause-noted c = λ e.
    let s = c.args.self.now in
    let g = c.args.group.now.group in
    noted_same s (group_at (g.position + 1) g) g c.requires.left.noted (same_behind s.tables g c.args.happening.now c.requires.event (sym c.is_idle.ensures ∙ c.if-is_idle.true))

pub returns-clause-hit : goal.returns-clause-hit
returns-clause-hit c =
    let s = c.args.self.now in
    let g = c.args.group.now.group in
    if_ok c.watch_hits.result _ _
    (λ hit found. hits_by_behind s s.same g c.args.happening.now hit found c.requires.event (sym c.breaks_behind.ensures ∙ c.if-breaks_behind.false) c.requires.left.noted
    (same_left s.tables s.watches.0 s.same g (c.requires.left.same (c.watches_nothing.ensures.some c.if-watches_nothing.false))))
    c.watch_hits.ensures.hit
