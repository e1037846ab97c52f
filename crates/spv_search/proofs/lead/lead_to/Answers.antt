use Rattle.std.proofs.Common.{◌≡◌, ◌∙◌, ◌+◌, ◌≤◌, ap, sym, arith}
use Rattle.spv_group.specs.Group.{Held as Group, group_at, window_in}
use Rattle.spv_group.proofs.Exports.{window_later}
use Rattle.spv_search.proofs.lead.lead_to.Goals as goal

pub returns-clause-kept : goal.returns-clause-kept
returns-clause-kept g c =
    let gone = c.in_ok-make.ensures.gone in
    let back = c.in_ok-return_to-2.ensures in
    let now = c.return_to-2.new.group in
    let next = c.make.new.group in
    let on : next.group.position ≡ now.group.position + 1 = ap (λ (x : Group). x.position) gone.same in
    let rises : window_in now ≤ window_in next = window_later now next (gone.same ∙ ap (λ n. group_at n now.group) (sym on)) gone.limit (omega (arith, on)) in
    omega (arith, gone.kept, back.kept, rises)
