use Rattle.std.proofs.Common.{◌≡◌, ◌∙◌, ℕ, List, length, sym, ap, subst, arith}
use Rattle.spv_dbg.specs.declared.frames.Bit.{Bit}
use Rattle.spv_expr.specs.Bits.{AreBits, local_bit}
use Rattle.spv_expr.proofs.CellLemmas.{are_bits, slice_back}
use Rattle.spv_expr.proofs.locals.local_bits.Goals as goal

pub returns : goal.returns
returns c =
    let bit : ℕ → Bit = local_bit c.args.view.now.memory.now c.args.view.now.inv c.args.view.now.tables.now c.args.events.now c.args.instance in
    let new = c.put_local.new.bits in
    let items = c.in_ok-bits.bits.items in
    let same : length new ≡ length items = c.put_local.auto.bits ∙ ap length c.as_mut_slice.ensures.value in
    let len_is = c.in_ok-bits.bits.ok.0 in
    let long : length new ≡ c.args.count = omega (arith, same, len_is, c.in_ok-bits.ensures.len) in
    subst (λ (bs : List Bit). AreBits bit c.args.first c.args.count bs) (sym (slice_back new items c.in_ok-bits.bits.len same len_is))
    (are_bits bit c.args.first c.args.count new long (λ n lt. c.in_ok-put_local.ensures n (omega (arith, lt, long, c.put_local.auto.bits))))
