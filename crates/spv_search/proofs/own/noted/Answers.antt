use Rattle.std.proofs.Common.{◌-◌, ◌≡◌, suc, sym, ◌∙◌, arith}
use Rattle.spv_search.proofs.OwnLemmas.{not_asked, other_before}
use Rattle.spv_search.proofs.own.noted.Goals as goal
use Rattle.spv_search.proofs.own.noted.Goals.{then-not-asks_before-via-then-not-asks_before, then-not-asks_before-via-else-not-asks_before+then-not-is_entry}

pub returns-then-not-asks_before : goal.returns-then-not-asks_before
returns-then-not-asks_before c =
    let i = c.args.focus.now.inv in
    let g = c.args.group.now.group in
    λ p depth. elim c.then-not-asks_before.branch [
      | then-not-asks_before-via-then-not-asks_before w ↦ not_asked c.args.command i p g (sym c.asks_before.ensures ∙ w.if-not-asks_before.true)
      | then-not-asks_before-via-else-not-asks_before+then-not-is_entry w ↦ (
          let here : g.position ≡ suc (w.position.result - 1) = omega (arith, c.requires.some, w.position.ensures.position) in
          other_before c.args.command i p g (w.position.result - 1) here (sym w.is_entry.ensures ∙ w.if-not-is_entry.true))
    ]
