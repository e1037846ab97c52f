use Rattle.std.proofs.Common.{◌≡◌, ◌<◌, ◌+◌, ◌∙◌, suc, length, get_or, ap, arith}
use Rattle.spv_base.specs.Entries.{reads}
use Rattle.spv_dbg.proofs.NameLemmas.{differ, names_more, names_same}
use Rattle.spv_dbg.proofs.names.numbers_by_name.Goals as goal
use Rattle.spv_dbg.proofs.names.numbers_by_name.Goals.{then-eq+in_ok-add_name, else-eq}

pub loop-n-preserved : goal.loop-n-preserved
loop-n-preserved c = λ file.
    let lt : c.loop-n.n < length c.args.ids.now = omega arith in
    let s : c.loop-n.n + 1 ≡ suc c.loop-n.n = omega arith in
    elim c.if-eq.branch [
      | then-eq+in_ok-add_name w ↦ rw (s, w.names-is) (names_more c.args.strings.now c.args.ids.now c.loop-n.n _ _ file lt (c.loop-n.invariant file) (w.in_ok-add_name.ensures file))
      | else-eq w ↦
          let there = c.get.ensures ∙ ap (reads (get_or c.args.ids.now c.loop-n.n 0)) c.in_ok-firsts.ensures in
          rw (s, w.names-is) (names_same c.args.strings.now c.args.ids.now c.loop-n.n _ file lt (c.loop-n.invariant file) (differ _ _ _ there w.if-eq.ensures))
    ]
