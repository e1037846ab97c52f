use Rattle.std.proofs.Common.{◌≡◌, ◌∙◌, ℕ, ◌+◌, ◌-◌, ◌<◌, Option, Bool, length, slice_get, ap, arith}
use Rattle.std.specs.Option.{option_map_or}
use Rattle.spv_expr.specs.Bits.{bits_of, bound, shown, unbound}
use Rattle.spv_expr.proofs.CellLemmas.{put_more}
use Rattle.spv_expr.proofs.cells.put_bits.Goals as goal

pub bits-preserved : goal.bits-preserved
bits-preserved c =
    let cells = c.args.cells.now in
    let from = c.args.from in
    let at = c.args.at in
    let n = c.bits.n in
    let rest = c.settled-rest.result in
    let le = c.bits.auto.n in
    let next : (m : ℕ) → slice_get (bits_of rest.cells.now) (rest.bit + m) ≡ slice_get (bits_of cells) (from + (n - at) + m) =
    λ m. c.settled-rest.ensures.same m ∙ c.bits.invariant.same m in
    let here : slice_get (bits_of rest.cells.now) rest.bit ≡ slice_get (bits_of cells) (from + (n - at)) =
    let a : rest.bit + 0 ≡ rest.bit = omega arith in
    let b : from + (n - at) + 0 ≡ from + (n - at) = omega arith in
    rw (a, b) at (next 0) in
    let is : c.bit_at.result ≡ shown (bits_of cells) (from + (n - at)) =
    c.bit_at.ensures ∙ ap (λ (o : Option (Option Bool)). option_map_or bound o unbound) here in
    let short : n < length c.bits.bits = let s = c.bits.auto.bits in let t = c.bits-test.true in let w = c.requires.within in omega arith in
    record {
      same = λ m.
          let a : rest.bit + 1 + m ≡ rest.bit + (1 + m) = omega arith in
          let b : from + (n + 1 - at) + m ≡ from + (n - at) + (1 + m) = omega arith in
          rw (a, b) (next (1 + m));
      lower = omega (arith, c.settled-rest.ensures.lower, c.bits.invariant.lower, le);
      put = put_more cells from c.args.bits.now at n c.bits.bits c.bit_at.result le short is c.bits.invariant.put;
    }
