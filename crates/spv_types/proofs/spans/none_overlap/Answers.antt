use Rattle.std.proofs.Common.{rules}
use Rattle.std.specs.Prelude.{not}
use Rattle.std.proofs.lemmas.List.Elements.{filter_from_retain}
use Rattle.std.proofs.lemmas.List.Sorted.{IsNonDecreasingBy-from_sort_by_key}
use Rattle.spv_types.specs.declared.spans.Span.{Span}
use Rattle.spv_types.specs.Layout.{is_empty}
use Rattle.spv_types.proofs.SpanLemmas.{overlap_by_order}
use Rattle.spv_types.proofs.spans.none_overlap.Goals as goal

pub returns : goal.returns
returns c =
    let kept = filter_from_retain _ (λ (s : Span). not (is_empty s)) (λ p x b q r. search rules) _ c.args.spans.items c.retain.new.self.items c.retain.ensures.filtered in
    let up = IsNonDecreasingBy-from_sort_by_key (λ (s : Span). s.start) c.sort_unstable_by_key.new.self.items c.sort_unstable_by_key.ensures.sorted (λ a r q k. search rules) in
    overlap_by_order c.args.spans.items c.retain.new.self.items c.sort_unstable_by_key.new.self.items c.each_ends_before_next.result c.requires kept c.sort_unstable_by_key.ensures.permutation up (λ e. rw c.as_slice.ensures.value at (c.each_ends_before_next.ensures.0 e)) (λ h. c.each_ends_before_next.ensures.1 (rw c.as_slice.ensures.value h))
