use Rattle.std.proofs.Common.{rules}
use Rattle.std.proofs.lemmas.List.Sorted.{IsNonDecreasingBy-from_sort_by_key}
use Rattle.spv_order.specs.declared.touches.Touch.{Touch}
use Rattle.spv_order.proofs.TouchLemmas.{touches_sorted}
use Rattle.spv_order.proofs.touches.sorted_touches.Goals as goal

pub returns : goal.returns
returns c = record {
  touches = touches_sorted c.args.events.now c.args.count _ _ c.sort_unstable_by_key.ensures.permutation c.in_ok-sorted.ensures;
  sorted = IsNonDecreasingBy-from_sort_by_key (λ (t : Touch). t.start) _ c.sort_unstable_by_key.ensures.sorted (λ a r q k. search rules);
}
