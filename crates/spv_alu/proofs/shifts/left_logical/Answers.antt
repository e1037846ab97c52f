use Rattle.std.proofs.Common.{◌^◌, ◌*◌, ap, ◌∙◌, sym}
use Rattle.std.proofs.lemmas.Bool.{lt-ltb}
use Rattle.spv_base.specs.Cell.{defined_cell}
use Rattle.spv_alu.proofs.Widths.{low_of_64, defined_if_true}
use Rattle.spv_alu.proofs.shifts.left_logical.Goals as goal

pub returns-then-places-width : goal.returns-then-places-width
returns-then-places-width c =
    c.integer.ensures
    ∙ ap (λ n. defined_cell c.args.width n) (low_of_64 (c.args.x * 2 ^ c.args.places) c.args.width c.requires.1)
    ∙ sym (defined_if_true _ _ (lt-ltb _ _ c.if-places-width.true))
