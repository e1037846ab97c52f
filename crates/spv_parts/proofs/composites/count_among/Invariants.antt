use Rattle.std.proofs.Common.{◌≡◌, ◌≤◌, filter, length, take}
use Rattle.spv_parts.specs.Parts.{is_member}
use Rattle.spv_parts.proofs.composites.count_among.Given as goal

abbrev pub invariant-loop-id : goal.invariant-loop-id
invariant-loop-id l = record {
  within : l.count ≤ l.id-index;
  same : l.count ≡ length (filter (is_member l.tables l.n) (take l.id-index l.ids));
}
