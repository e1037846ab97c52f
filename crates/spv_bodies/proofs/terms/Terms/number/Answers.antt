use Rattle.std.proofs.Common.{◌≡◌, None, length, nat_cmp, sym, arith}
use Rattle.std.specs.BTreeMap.{get}
use Rattle.std.specs.Ordering.{is_eq}
use Rattle.spv_index.specs.Keys.{pair_cmp}
use Rattle.spv_types.proofs.Exports.{on_ok}
use Rattle.spv_bodies.specs.declared.terms.Node.TheVariants.{Number as Single, Pair as Double}
use Rattle.spv_bodies.proofs.TermLemmas.{none_single, singles, push_before, push_here, push_other, push_same}
use Rattle.spv_bodies.proofs.terms.Terms.number.Goals as goal

pub invariant_of-self-else-is_err : goal.invariant_of-self-else-is_err
invariant_of-self-else-is_err c =
    let nodes = c.self.inside.nodes.items in
    let put = on_ok c.insert.result _ c.insert.ensures.updates c.if-is_err.ensures.negation in
    let e : c.len-place.result ≡ length c.self.inside.nodes.items = omega arith in
    let none : get nat_cmp c.self.inside.numbers c.args.number ≡ None = sym (rw c.in_default.is at c.get.ensures.value) in
    rw c.in_ok-push.ensures.items record {
      numbers_are = λ k n. rw (put.0 k) (push_same nodes (Single c.args.number) (Single k) (is_eq (nat_cmp c.args.number k)) (get nat_cmp c.self.inside.numbers k) n c.len-place.result e (singles c.args.number k) (λ j. c.self.invariant.numbers_are k j)
          (none_single (λ q. get nat_cmp c.self.inside.numbers q) c.args.number k none));
      pairs_are = λ x y n. push_other nodes (Single c.args.number) (Double x y) (get pair_cmp c.self.inside.pairs (x, y)) n (λ h. cc) (c.self.invariant.pairs_are x y n);
    }

pub returns-clause-grows : goal.returns-clause-grows
returns-clause-grows c = rw (← c.self.view_is, c.in_ok-push.ensures.items) (push_before c.self.inside.nodes.items (Single c.args.number))

pub returns-clause-there : goal.returns-clause-there
returns-clause-there c =
    let e : c.len-place.result ≡ length c.self.inside.nodes.items = omega arith in
    rw (c.in_ok-push.ensures.items, e) (push_here c.self.inside.nodes.items (Single c.args.number))
