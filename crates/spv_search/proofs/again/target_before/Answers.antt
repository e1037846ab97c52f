use Rattle.std.proofs.Common.{◌≡◌, ◌<◌, ◌∙◌, true, ap, refl, sym, arith}
use Rattle.spv_group.specs.Group.{Held as Group, group_at}
use Rattle.spv_search.specs.Own.{own_next}
use Rattle.spv_search.proofs.BackLemmas.{first_group}
use Rattle.spv_search.proofs.OwnLemmas.{if_ok}
use Rattle.spv_search.proofs.SearchLemmas.{target_here}
use Rattle.spv_search.proofs.again.target_before.Goals as goal
use Rattle.spv_search.proofs.again.target_before.Goals.{else-position-search-via-then-position-search+else-holds_next, else-position-search-via-else-position-search}

pub returns-then-holds_next-clause-target : goal.returns-then-holds_next-clause-target
returns-then-holds_next-clause-target g c =
    let i = c.args.search.now.focus.inv in
    let command = c.args.search.now.command in
    let now = c.args.group.now in
    λ from position depth left. (
    let below : now.group.position < from.group.position = omega (arith, c.if-position-search.true, c.position-position.ensures.position, position) in
    let first : group_at from.group.position now.group ≡ from.group = first_group from now left.same in
    let asked : own_next command i from.group now.group ≡ true
    = sym (c.holds_next.ensures i from.group.position now.group left.way below ∙ ap (λ (x : Group). own_next command i x now.group) first) ∙ c.if-holds_next.true in
    target_here (g.H.Hits.hits c.args.hits.now) command i from now c.args.way (record { position = c.position-position.result; done = true }) left below asked c.position-position.ensures.position refl)

pub returns-clause-target : goal.returns-clause-target
returns-clause-target g c =
    let i = c.args.search.now.focus.inv in
    let command = c.args.search.now.command in
    let now = c.args.group.now in
    if_ok c.find_again.result _ _
    (λ target is. λ from position depth left. is from position depth left
    (λ below. (
    let first : group_at from.group.position now.group ≡ from.group = first_group from now left.same in
    elim c.else-position-search.branch [
      | else-position-search-via-then-position-search+else-holds_next w ↦ sym (w.holds_next.ensures i from.group.position now.group left.way below ∙ ap (λ (x : Group). own_next command i x now.group) first) ∙ w.if-holds_next.false
      | else-position-search-via-else-position-search w ↦ absurd (omega (arith, below, w.if-position-search.false, c.position-position.ensures.position, position))
    ])))
    c.find_again.ensures.target
