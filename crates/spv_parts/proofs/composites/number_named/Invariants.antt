use Rattle.std.proofs.Common.{◌≡◌, ◌≤◌, drop}
use Rattle.std.specs.List.{position_from}
use Rattle.std.specs.Prelude.{filter, position}
use Rattle.spv_parts.specs.Composites.{is_named}
use Rattle.spv_parts.specs.Parts.{is_member}
use Rattle.spv_parts.proofs.composites.number_named.Given as goal

abbrev pub invariant-loop-id : goal.invariant-loop-id
invariant-loop-id l = record {
  within : l.number ≤ l.id-index;
  same : position_from (is_named l.tables l.name) l.number (filter (is_member l.tables l.n) (drop l.id-index l.ids)) ≡ position (is_named l.tables l.name) (filter (is_member l.tables l.n) l.ids);
}
