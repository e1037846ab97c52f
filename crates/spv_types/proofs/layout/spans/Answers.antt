use Rattle.std.proofs.Common.{arith, sym}
use Rattle.std.proofs.lemmas.List.Elements.{All-push}
use Rattle.spv_types.specs.Layout.{IsForward, span_of}
use Rattle.spv_types.proofs.LayoutLemmas.{map_next}
use Rattle.spv_types.proofs.layout.spans.Goals as goal

pub loop-member-preserved : goal.loop-member-preserved
loop-member-preserved c =
    let e = map_next (span_of c.args.types.now) c.args.members.now c.loop-member.member-index _ c.loop-member-test.true in
    record {
      spans = rw (c.in_ok-push.ensures.items, c.loop-member.invariant.spans, c.saturating_add-end.ensures, c.start-start.ensures, c.whole_size.ensures, c.is_runtime-is_open.ensures) (sym e);
      forward = rw c.in_ok-push.ensures.items (All-push IsForward c.loop-member.spans.items _ c.loop-member.invariant.forward (omega arith));
    }
