use Rattle.std.proofs.Common.{ap, ◌∙◌, ◌^◌, sym, FitsSigned, w64}
use Rattle.std.proofs.lemmas.Bool.{lt-ltb}
use Rattle.spv_alu.specs.Results.{integer}
use Rattle.spv_alu.proofs.Widths.{shifted_signed, defined_if_true}
use Rattle.spv_alu.proofs.shifts.right_arithmetic.Goals as goal

pub returns-then-places-width : goal.returns-then-places-width
returns-then-places-width c =
    let fits : FitsSigned w64 c.signed.result = record { sfits = c.signed.type_inv } in
    c.signed_integer.ensures
    ∙ (ap (λ z. integer c.args.width z) (shifted_signed w64 c.signed.result _ (2 ^ c.args.places) fits c.signed.ensures)
    ∙ sym (defined_if_true _ _ (lt-ltb _ _ c.if-places-width.true)))
