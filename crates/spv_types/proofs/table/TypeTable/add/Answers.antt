use Rattle.std.proofs.Common.{◌≡◌, ◌∙◌, length, sym, arith, vec_len}
use Rattle.spv_types.proofs.CountedLemmas.{counted_push}
use Rattle.spv_types.proofs.TableLemmas.{on_err, on_ok, popped}
use Rattle.spv_types.proofs.TypeLemmas.{number_push}
use Rattle.spv_types.proofs.table.TypeTable.add.Goals as goal

pub invariant_of-self-else-is_err : goal.invariant_of-self-else-is_err
invariant_of-self-else-is_err c =
    let put = on_ok c.put.result _ c.put.ensures.ok c.if-is_err.ensures.negation in
    let n : c.len-number.result ≡ length c.self.inside.entries.items = omega arith in
    record {
      numbers = λ q. put q ∙ rw (c.self.invariant.numbers q, n, c.in_ok-push.ensures.items) (sym (number_push c.self.inside.entries.items (c.args.id, c.args.form) q));
      counts = rw c.in_ok-push.ensures.items (counted_push c.self.inside.entries.items _ c.self.inside.counts.items c.self.invariant.counts);
    }

pub invariant_of-self-then-is_err : goal.invariant_of-self-then-is_err
invariant_of-self-then-is_err c =
    let put = on_err c.put.result _ c.put.ensures.err c.if-is_err.ensures.negation in
    let same = popped c.self.inside.entries.items c.push.new.self.items c.pop.new.self.items _ (vec_len c.push.new.self) c.in_ok-push.ensures.items (omega arith) c.pop.ensures.rest in
    record {
      numbers = λ q. rw (same, put q) (c.self.invariant.numbers q);
      counts = rw same c.self.invariant.counts;
    }
