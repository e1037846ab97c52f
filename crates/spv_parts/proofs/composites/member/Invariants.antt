use Rattle.std.proofs.Common.{◌≡◌, ◌<◌, ◌^◌, drop}
use Rattle.std.specs.Prelude.{filter, option_map}
use Rattle.spv_parts.specs.Kept.{saturated_place}
use Rattle.spv_parts.specs.Parts.{is_member, member}
use Rattle.spv_parts.proofs.PartLemmas.{after}
use Rattle.spv_parts.proofs.composites.member.Given as goal

abbrev pub invariant-loop-id : goal.invariant-loop-id
invariant-loop-id l = record {
  fits : l.start < 2 ^ 64;
  same :
      option_map saturated_place (after l.start (member l.tables (filter (is_member l.tables l.n) (drop l.id-index l.ids)) l.left))
      ≡ option_map saturated_place (member l.tables (filter (is_member l.tables l.n) l.ids) l.index);
}
