use Rattle.std.proofs.Common.{◌≡◌, ◌<◌, ◌^◌, drop}
use Rattle.std.specs.Prelude.{option_map}
use Rattle.spv_parts.specs.Kept.{kept_place, saturated_place}
use Rattle.spv_parts.specs.Parts.{reached, whole}
use Rattle.spv_parts.proofs.parts.reached.Given as goal

abbrev pub invariant-loop-id : goal.invariant-loop-id
invariant-loop-id l = record {
  fits : l.place.start < 2 ^ 64;
  same : option_map saturated_place (reached l.tables (kept_place l.place) (drop l.id-index l.indexes))
      ≡ option_map saturated_place (reached l.tables (0, whole l.ty) l.indexes);
}
