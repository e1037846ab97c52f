use Rattle.std.proofs.Common.{◌≡◌, map, take}
use Rattle.std.specs.List.{All}
use Rattle.spv_types.specs.Layout.{IsForward, span_of}
use Rattle.spv_types.proofs.layout.spans.Given as goal

-- the spans so far
abbrev pub invariant-loop-member : goal.invariant-loop-member
invariant-loop-member l = record {
  spans : l.spans.items ≡ map (span_of l.types) (take l.member-index l.members);
  forward : All IsForward l.spans.items;
}
