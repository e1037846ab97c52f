use Rattle.std.proofs.Common.{◌≡◌, pos, true, false, ◌+ℤ◌, FitsSigned, to_z, of_z, ap, sym, ◌∙◌, arith}
use Rattle.std.specs.Int.{w64, int_rem_euclid}
use Rattle.std.specs.Prelude.{int_lt}
use Rattle.std.proofs.lemmas.Int.{ints, to_z-of_z}
use Rattle.spv_alu.proofs.Remainders.{mod_above, mod_negative, mod_negative_zero}
use Rattle.spv_alu.proofs.division.modulus.Goals as goal
use Rattle.spv_alu.proofs.division.modulus.Goals.{else-divisor-lt0-via-then-divisor-lt0+else-remainder-ne0, else-divisor-lt0-via-else-divisor-lt0}

pub returns-then-remainder-ne0 : goal.returns-then-remainder-ne0
returns-then-remainder-ne0 c =
    let x = c.args.dividend in
    let d = c.args.divisor in
    let r = c.rem_euclid-remainder.result in
    let fits_x : FitsSigned w64 x = c.ranges.dividend in
    let fits_d : FitsSigned w64 d = c.ranges.divisor in
    let fits_r : FitsSigned w64 r = record { sfits = c.rem_euclid-remainder.type_inv } in
    let value : r ≡ int_rem_euclid x d = simp to_z-of_z at c.rem_euclid-remainder.ensures.value in
    let negative : int_lt d (pos 0) ≡ true = simp to_z-of_z at c.if-divisor-lt0.true in
    let whole : to_z w64 (of_z w64 (to_z w64 (of_z w64 r) +ℤ to_z w64 (of_z w64 d))) ≡ r +ℤ d = omega (arith, ints) in
    whole ∙ (ap (λ z. z +ℤ d) value ∙ mod_negative x d negative (λ e. c.if-remainder-ne0.true (ap (of_z w64) (value ∙ e))))

pub returns-else-divisor-lt0 : goal.returns-else-divisor-lt0
returns-else-divisor-lt0 c =
    let x = c.args.dividend in
    let d = c.args.divisor in
    let r = c.rem_euclid-remainder.result in
    let fits_x : FitsSigned w64 x = c.ranges.dividend in
    let fits_d : FitsSigned w64 d = c.ranges.divisor in
    let fits_r : FitsSigned w64 r = record { sfits = c.rem_euclid-remainder.type_inv } in
    let value : r ≡ int_rem_euclid x d = simp to_z-of_z at c.rem_euclid-remainder.ensures.value in
    to_z-of_z w64 r fits_r
    ∙ (elim c.else-divisor-lt0.branch [
      | else-divisor-lt0-via-then-divisor-lt0+else-remainder-ne0 w ↦
          let negative : int_lt d (pos 0) ≡ true = simp to_z-of_z at w.if-divisor-lt0.true in
          let none : r ≡ pos 0 = sym (to_z-of_z w64 r fits_r) ∙ ap (to_z w64) w.if-remainder-ne0.false in
          value ∙ mod_negative_zero x d negative (sym value ∙ none)
      | else-divisor-lt0-via-else-divisor-lt0 w ↦
          let above : int_lt d (pos 0) ≡ false = simp to_z-of_z at w.if-divisor-lt0.false in
          value ∙ mod_above x d above
    ])
