use Rattle.std.proofs.Common.{◌≡◌, ◌∙◌, ap, decimal, subst, sym}
use Rattle.std.specs.Fmt.{signed_decimal}
use Rattle.spv_alu.specs.Integers.{signed}
use Rattle.spv_base.specs.Cell.{IsCell, Cell}
use Rattle.spv_show.proofs.ScalarLemmas.{without_bits}
use Rattle.spv_show.proofs.scalars.push_signed.Goals as goal

pub returns-then-not-is_width : goal.returns-then-not-is_width
returns-then-not-is_width c =
    let cell = c.args.cell.now in
    let e : signed_decimal (signed cell.width cell.bits) ≡ decimal c.cell.inside.bits =
    without_bits cell c.cell.inside.width c.is_width.result (subst IsCell c.cell.view_is c.cell.invariant) (ap (λ (l : Cell). l.width) c.cell.view_is) c.is_width.ensures c.if-not-is_width.true ∙ ap (λ (l : Cell). decimal l.bits) (sym c.cell.view_is) in
    rw e c.push_number.ensures.ok
