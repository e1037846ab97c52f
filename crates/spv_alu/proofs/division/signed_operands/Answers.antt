use Rattle.std.proofs.Common.{FitsSigned, sym, ◌∙◌}
use Rattle.std.specs.Int.{w64, CanDivide}
use Rattle.std.proofs.lemmas.Int.{to_z-of_z}
use Rattle.spv_alu.proofs.Quotients.{can_divide}
use Rattle.spv_alu.proofs.division.signed_operands.Goals as goal

pub returns-then-has_quotient-clause-divides : goal.returns-then-has_quotient-clause-divides
returns-then-has_quotient-clause-divides c =
    let x = c.signed.result in
    let y = c.signed-then-has_quotient.result in
    let fits_x : FitsSigned w64 x = record { sfits = c.signed.type_inv } in
    let fits_y : FitsSigned w64 y = record { sfits = c.signed-then-has_quotient.type_inv } in
    let divides : CanDivide w64 x y = rw (c.signed.ensures, c.signed-then-has_quotient.ensures) (can_divide c.args.width c.args.x c.args.y c.requires.width c.requires.x c.requires.y (sym c.has_quotient.ensures ∙ c.if-has_quotient.true) (rw c.signed.ensures at fits_x)) in
    simp to_z-of_z divides
