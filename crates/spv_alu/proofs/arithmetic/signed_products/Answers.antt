use Rattle.std.proofs.Common.{FitsSigned, w64, ◌^◌, ℤ, pos, ◌*ℤ◌, ap, ◌∙◌}
use Rattle.std.specs.Int.{int_div_euclid}
use Rattle.spv_alu.specs.Integers.{signed}
use Rattle.spv_alu.specs.Results.{integer}
use Rattle.spv_alu.proofs.Widths.{shifted_product}
use Rattle.spv_alu.proofs.arithmetic.signed_products.Goals as goal

pub returns-clause-high : goal.returns-clause-high
returns-clause-high c =
    let a : ℤ = c.signed.result in
    let b : ℤ = c.signed-2.result in
    let places = 2 ^ c.args.width in
    let narrow_a : FitsSigned w64 a = record { sfits = c.signed.type_inv } in
    let narrow_b : FitsSigned w64 b = record { sfits = c.signed-2.type_inv } in
    c.wide_integer-2.ensures
    ∙ ap (λ z. integer c.args.width z) (
    shifted_product a b places narrow_a narrow_b
    ∙ (ap (λ x. int_div_euclid (x *ℤ b) (pos places)) c.signed.ensures
    ∙ ap (λ y. int_div_euclid (signed c.args.width c.args.x *ℤ y) (pos places)) c.signed-2.ensures)
    )
