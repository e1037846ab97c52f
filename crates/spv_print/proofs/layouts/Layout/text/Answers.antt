use Rattle.std.proofs.Common.{ℕ, List, refl}
use Rattle.spv_print.specs.Leaves.{bits_in}
use Rattle.spv_print.proofs.PieceLemmas.{same_text}
use Rattle.spv_print.proofs.layouts.Layout.text.Goals as goal

pub returns-clause-ok : goal.returns-clause-ok
returns-clause-ok c = λ all agree.
    let same = same_text c.args.tables.now (bits_in c.args.bits.now) all c.args.self.now agree in
    rw (c.in_ok-extend_from_slice.ensures.items, c.deref.ensures.value, c.in_ok-push_all.ensures, c.new-text.ensures.items, c.as_slice.ensures.value, c.self.view_is, same) (refl {A = List ℕ})
