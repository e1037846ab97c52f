use Rattle.std.proofs.Common.{◌==◌, ◌∙◌, false, sym, ap}
use Rattle.std.specs.Prelude.{slice_get}
use Rattle.std.specs.Option.{option_map_or}
use Rattle.spv_group.specs.Group.{entries_in}
use Rattle.spv_search.proofs.MoveLemmas.{other_entry}
use Rattle.spv_search.proofs.own.seen.Goals as goal
use Rattle.spv_search.proofs.own.seen.Goals.{then-not-compares-via-then-not-compares, then-not-compares-via-else-not-compares+then-not-is_entry}

pub returns-then-not-compares : goal.returns-then-not-compares
returns-then-not-compares c =
    let i = c.args.focus.now.inv in
    let g = c.args.group.now.group in
    λ asked h is. elim c.then-not-compares.branch [
      | then-not-compares-via-then-not-compares w ↦ absurd (cc (asked, c.compares.ensures, w.if-not-compares.true))
      | then-not-compares-via-else-not-compares+then-not-is_entry w ↦ other_entry g.program (entries_in g) g.position i h
          (ap (λ n. option_map_or (λ j. j == i) (slice_get (entries_in g) n) false) (sym w.position.ensures.position) ∙ sym w.is_entry.ensures ∙ w.if-not-is_entry.true) is
    ]
