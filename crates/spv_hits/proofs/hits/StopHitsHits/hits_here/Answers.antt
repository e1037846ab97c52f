use Rattle.std.proofs.Common.{◌≡◌, ◌∙◌, ◌-◌, ap, false, subst, sym}
use Rattle.std.specs.List.{list_any}
use Rattle.spv_group.specs.Group.{Held as Group, group_at, state_in}
use Rattle.spv_hits.specs.Hits.{has_some}
use Rattle.spv_hits.specs.Kept.{IsNoted, IsSame, Stopping, differs}
use Rattle.spv_hits.proofs.HitLemmas.{entry_before, hit_by_watch, hits_by_before, idle_here, if_ok, noted_same, noted_unwatched, same_here, unwatched_here}
use Rattle.spv_hits.proofs.hits.StopHitsHits.hits_here.Goals as goal

pub returns-then-watches_nothing-clause-hit : goal.returns-then-watches_nothing-clause-hit
returns-then-watches_nothing-clause-hit c =
    let s = c.args.self.now in
    let g = c.args.group.now.group in
    hit_by_watch s.tables s.breaks s.watches g false (sym c.breaks_here.ensures ∙ c.if-breaks_here.false)
    (sym (ap has_some (unwatched_here s.tables s.watches g (c.watches_nothing.ensures.none c.if-watches_nothing.true))))

pub returns-then-watches_nothing-clause-noted : goal.returns-then-watches_nothing-clause-noted
returns-then-watches_nothing-clause-noted c =
    let g = c.args.group.now.group in
    noted_unwatched c.args.self.now (group_at (g.position - 1) g) g (c.watches_nothing.ensures.none c.if-watches_nothing.true) c.requires.noted

pub returns-then-is_idle-clause-hit : goal.returns-then-is_idle-clause-hit
returns-then-is_idle-clause-hit c =
    let s = c.args.self.now in
    let g = c.args.group.now.group in
    hit_by_watch s.tables s.breaks s.watches g false (sym c.breaks_here.ensures ∙ c.if-breaks_here.false)
    (sym (ap has_some (idle_here s.tables s.watches g c.args.happening.now c.requires.event (sym c.is_idle.ensures ∙ c.if-is_idle.true))))

pub returns-then-is_idle-clause-noted : goal.returns-then-is_idle-clause-noted
returns-then-is_idle-clause-noted c =
    let s = c.args.self.now in
    let g = c.args.group.now.group in
    noted_same s (group_at (g.position - 1) g) g c.requires.noted (same_here s.tables g c.args.happening.now c.requires.event (sym c.is_idle.ensures ∙ c.if-is_idle.true))

pub look-requires-clause-entry : goal.look-requires-clause-entry
look-requires-clause-entry c = entry_before c.args.group.now.group c.args.happening.now c.requires.event

pub returns-clause-hit : goal.returns-clause-hit
returns-clause-hit c =
    let s = c.args.self.now in
    let g = c.args.group.now.group in
    let x = c.look.new.self.same in
    if_ok c.watch_hits.result _ _
    (λ hit found. hits_by_before s x g c.args.happening.now hit
    (subst (λ (r : Stopping). (o : Group) → IsNoted r o → IsSame r.tables r.watches.0 r.same (state_in o) (state_in g) → hit ≡ list_any (differs r.tables o g) r.watches.0) c.look.ensures.rest found)
    c.requires.event (sym c.breaks_here.ensures ∙ c.if-breaks_here.false) c.requires.noted c.look.ensures.same)
    c.watch_hits.ensures.hit
