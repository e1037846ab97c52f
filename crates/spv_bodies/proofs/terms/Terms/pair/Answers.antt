use Rattle.std.proofs.Common.{◌≡◌, Some, None, length, nat_cmp, sym, arith}
use Rattle.std.specs.BTreeMap.{get}
use Rattle.std.specs.Ordering.{is_eq}
use Rattle.spv_index.specs.Keys.{pair_cmp}
use Rattle.spv_types.proofs.Exports.{on_ok}
use Rattle.spv_bodies.specs.declared.terms.Node.TheVariants.{Number as Single, Pair as Double}
use Rattle.spv_bodies.proofs.TermLemmas.{none_double, doubles, push_before, push_here, push_other, push_same}
use Rattle.spv_bodies.proofs.terms.Terms.pair.Goals as goal

pub returns-in-Some-clause-there : goal.returns-in-Some-clause-there
returns-in-Some-clause-there c =
    let found : get pair_cmp c.self.inside.pairs (c.args.first, c.args.second) ≡ Some c.in-Some.place.now = sym (rw c.in-Some.is at c.get.ensures.value) in
    rw (← c.self.view_is) ((c.self.invariant.pairs_are c.args.first c.args.second c.in-Some.place.now).0 found)

pub invariant_of-self-else-is_err : goal.invariant_of-self-else-is_err
invariant_of-self-else-is_err c =
    let nodes = c.self.inside.nodes.items in
    let put = on_ok c.insert.result _ c.insert.ensures.updates c.if-is_err.ensures.negation in
    let e : c.len-place.result ≡ length c.self.inside.nodes.items = omega arith in
    let none : get pair_cmp c.self.inside.pairs (c.args.first, c.args.second) ≡ None = sym (rw c.in_default.is at c.get.ensures.value) in
    rw c.in_ok-push.ensures.items record {
      numbers_are = λ k n. push_other nodes (Double c.args.first c.args.second) (Single k) (get nat_cmp c.self.inside.numbers k) n (λ h. cc) (c.self.invariant.numbers_are k n);
      pairs_are = λ x y n. rw (put.0 (x, y)) (push_same nodes (Double c.args.first c.args.second) (Double x y) (is_eq (pair_cmp (c.args.first, c.args.second) (x, y))) (get pair_cmp c.self.inside.pairs (x, y)) n c.len-place.result e (doubles c.args.first c.args.second x y)
          (λ j. c.self.invariant.pairs_are x y j) (none_double (λ p q. get pair_cmp c.self.inside.pairs (p, q)) c.args.first c.args.second x y none));
    }

pub returns-clause-grows : goal.returns-clause-grows
returns-clause-grows c = rw (← c.self.view_is, c.in_ok-push.ensures.items) (push_before c.self.inside.nodes.items (Double c.args.first c.args.second))

pub returns-clause-there : goal.returns-clause-there
returns-clause-there c =
    let e : c.len-place.result ≡ length c.self.inside.nodes.items = omega arith in
    rw (c.in_ok-push.ensures.items, e) (push_here c.self.inside.nodes.items (Double c.args.first c.args.second))
