use Rattle.std.proofs.Common.{◌≡◌, take}
use Rattle.std.specs.List.{flat_map}
use Rattle.spv_types.specs.Rows.{leaves}
use Rattle.spv_effects.specs.Composites.{leaves_in}
use Rattle.spv_effects.proofs.composites.join_cells.Given as goal

abbrev pub invariant-loop-part : goal.invariant-loop-part
invariant-loop-part l = record {
  place : l.start ≡ leaves_in (take l.part-index l.parts);
  done : take l.start l.into ≡ flat_map leaves (take l.part-index l.parts);
}
