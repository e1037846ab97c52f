use Rattle.std.proofs.Common.{◌*◌, ◌+◌, ◌%◌, ◌∙◌, ap, sym, subst, arith}
use Rattle.std.proofs.lemmas.Nat.{div-add-mod'}
use Rattle.std.specs.List.Sorted.{IsNonDecreasingBy}
use Rattle.spv_order.proofs.OrderLemmas.{conflict_found, events_below, free_alone, free_before}
use Rattle.spv_order.specs.Touches.{AreTouches}
use Rattle.spv_order.specs.declared.touches.Touch.{Touch}
use Rattle.spv_order.proofs.orders.order.Goals as goal

pub first_pair-requires : goal.first_pair-requires
first_pair-requires c =
    let are = subst (λ xs. AreTouches c.args.events.now c.arrival-count.result xs) (sym c.deref.ensures.value) c.in_ok-touches.ensures.touches in
    record {
      sorted = subst (λ xs. IsNonDecreasingBy (λ (t : Touch). t.start) xs) (sym c.deref.ensures.value) c.in_ok-touches.ensures.sorted;
      events = events_below c.args.events.now c.arrival-count.result c.deref.result.now are;
      alone = λ also. free_alone c.args.events.now c.arrival-count.result also c.deref.result.now are;
    }

pub unconflicted-requires : goal.unconflicted-requires
unconflicted-requires c =
    let are = subst (λ xs. AreTouches c.args.events.now c.arrival-count.result xs) (sym c.deref.ensures.value) c.in_ok-touches.ensures.touches in
    record {
      arrival = c.arrival-count.ensures;
      free = free_before c.args.events.now c.arrival-count.result c.arrival-count.result c.arrival-count.result c.deref.result.now c.arrival-count.ensures are (omega arith) c.in-None.ensures;
    }

pub returns : goal.returns
returns c =
    let are = subst (λ xs. AreTouches c.args.events.now c.arrival-count.result xs) (sym c.deref.ensures.value) c.in_ok-touches.ensures.touches in
    let p = c.in-Some.pair in
    conflict_found c.args.events.now c.arrival-count.result p.first p.second p.address c.deref.result.now c.arrival-count.ensures are c.in-Some.ensures
    c.root_of.result c.leaf_of.result c.leaf_of.ensures.fits
    (sym (div-add-mod' p.address 4294967296) ∙ ap (λ n. n * 4294967296 + p.address % 4294967296) (sym c.root_of.ensures) ∙ ap (λ n. c.root_of.result * 4294967296 + n) (sym c.leaf_of.ensures.number))
