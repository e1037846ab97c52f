use Rattle.std.proofs.Common.{◌≡◌, ◌∙◌, ◌+◌, sym}
use Rattle.spv_group.specs.Group.{group_at}
use Rattle.spv_search.specs.Own.{own_backward}
use Rattle.spv_search.proofs.OwnLemmas.{own_by_before, own_by_next, turned}
use Rattle.spv_search.proofs.backward.look_behind.Goals as goal
use Rattle.spv_search.proofs.backward.look_behind.Goals.{then-holds_next, else-holds_next+in_ok-done}

pub returns-clause-looked : goal.returns-clause-looked
returns-clause-looked g c =
    let u = c.args.group.now.group in
    let s = c.args.search.now in
    let i = s.focus.inv in
    let here = group_at (u.position + 1) u in
    λ p noted way below. (
    let own : c.if-holds_next.done ≡ own_backward s.command i (group_at p u) here = elim c.if-holds_next.branch [
      | then-holds_next w ↦ w.done-is ∙ w.if-holds_next.true ∙ own_by_next s.command i (group_at p u) here (sym (c.holds_next.ensures i p here way below) ∙ w.if-holds_next.true)
      | else-holds_next+in_ok-done w ↦ w.done-is
          ∙ own_by_before s.command i (group_at p u) here w.in_ok-done.done (sym (c.holds_next.ensures i p here way below) ∙ w.if-holds_next.false) (w.in_ok-done.ensures (group_at p u) noted)
    ] in
    record { passes = c.in_ok-passes.ensures.passes ∙ turned (g.H.Hits.hits c.args.hits.now here) (own_backward s.command i (group_at p u) here) c.if-holds_next.done own; done = own })
