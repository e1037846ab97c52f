use Rattle.std.proofs.Common.{◌≡◌, ◌∙◌, ℕ, ◌+◌, ◌<◌, List, Option, Bool, length, sym, ap, subst, arith}
use Rattle.std.specs.Option.{option_map_or}
use Rattle.spv_dbg.specs.declared.frames.Bit.{Bit}
use Rattle.spv_expr.specs.Bits.{AreBits, bits_of, bound, global_bit, global_cells, shown, unbound}
use Rattle.spv_expr.specs.Rests.{bit_in}
use Rattle.spv_expr.proofs.CellLemmas.{all_put, are_bits, slice_back}
use Rattle.spv_expr.proofs.variables.global_bits.Goals as goal

pub returns : goal.returns
returns c =
    let m = c.args.view.now.memory.now in
    let inv = c.args.view.now.inv in
    let t = c.args.view.now.tables.now in
    let bit : ℕ → Bit = global_bit m inv t c.args.debug.now in
    let new = c.put_bits.new.bits in
    let items = c.in_ok-bits.bits.items in
    let same : length new ≡ length items = c.put_bits.auto.bits ∙ ap length c.as_mut_slice.ensures.value in
    let len_is = c.in_ok-bits.bits.ok.0 in
    let long : length new ≡ c.args.count = omega (arith, same, len_is, c.in_ok-bits.ensures.len) in
    let rest = c.global_rest-rest in
    let each : (k : ℕ) → k < c.args.count → bit_in new k ≡ bit (c.args.first + k) = λ k lt.
    all_put rest.result.cells.now rest.result.bit c.as_mut_slice.result.now c.args.count new c.put_bits.ensures k lt
    ∙ ap (λ (o : Option (Option Bool)). option_map_or bound o unbound) (rest.ensures.same k)
    ∙ ap (λ (id : ℕ). shown (bits_of (global_cells m inv t id)) (c.args.first + k)) c.operand.ensures in
    subst (λ (bs : List Bit). AreBits bit c.args.first c.args.count bs) (sym (slice_back new items c.in_ok-bits.bits.len same len_is))
    (are_bits bit c.args.first c.args.count new long each)
