use Rattle.std.proofs.Common.{sym, ap, ◌∙◌, ℕ}
use Rattle.spv_types.specs.Cells.{cells_of}
use Rattle.spv_types.proofs.CellLemmas.{element_saturated, some_pair}
use Rattle.spv_types.proofs.leaves.element_at.Goals as goal

pub returns : goal.returns
returns c =
    ap (λ (n : ℕ). some_pair n c.args.ty) c.saturating_mul.ensures ∙ sym (element_saturated (cells_of c.args.types.now c.args.ty) c.in_ok-cells.cells c.args.i c.args.ty (sym c.in_ok-cells.ensures))
