-- An integer without bits is 0, signed or not.
use Rattle.std.proofs.Common.{◌≡◌, ℕ, zero, suc, ◌<◌, ◌≤◌, ◌^◌, Bool, false, refl, sym, subst, arith}
use Rattle.std.specs.Prelude.{◌↔◌, IsTrue, decimal}
use Rattle.std.specs.Fmt.{signed_decimal}
use Rattle.spv_base.specs.Cell.{IsCell, Cell}
use Rattle.spv_alu.specs.Integers.{IsWidth, signed}

none_signed : (w n : ℕ) → w ≤ 64 → n < 2 ^ w → (IsWidth w → ⊥) → signed_decimal (signed w n) ≡ decimal n
unfolding signed
none_signed zero n narrow fits none = let nothing : n ≡ 0 = omega (arith, fits) in rw nothing refl
none_signed (suc w) n narrow fits none = absurd (none (omega arith, narrow))

pub without_bits : (c : Cell) (w : ℕ) (is : Bool) → IsCell c → w ≡ c.width → IsTrue is ↔ IsWidth w → is ≡ false → signed_decimal (signed c.width c.bits) ≡ decimal c.bits
without_bits c w is lane same told none = none_signed c.width c.bits lane.narrow lane.fits (λ width. absurd (let yes = told.1 (subst IsWidth (sym same) width) in cc))
