use Rattle.std.proofs.Common.{◌≡◌, ◌<◌, ℕ, ap, arith, length, sym, subst}
use Rattle.spv_types.specs.Counted.{IsCounted}
use Rattle.spv_types.specs.Types.{Types}
use Rattle.spv_types.proofs.CountedLemmas.{counted_next}
use Rattle.spv_types.proofs.table.TypeTable.count_next.Goals as goal

pub invariant_of-self-2 : goal.invariant_of-self-2
invariant_of-self-2 c =
    let less : length c.self.inside.counts.items < length c.self.inside.entries.items = omega (arith, ap length c.self.view_is) in
    let number : c.len-number.result ≡ length c.self.inside.counts.items = omega arith in
    let counted = subst (λ (n : ℕ). IsCounted c.args.self.now n c.in_ok-count.count) number c.in_ok-count.ensures in
    let here = subst (λ (ts : Types). IsCounted ts (length c.self.inside.counts.items) c.in_ok-count.count) (sym c.self.view_is) counted in
    record {
      numbers = c.self.invariant.numbers;
      counts = rw c.in_ok-push.ensures.items (counted_next c.self.inside.entries.items c.self.inside.counts.items c.in_ok-count.count c.self.invariant.counts less here);
    }
