-- The pointer that leads to a place.
use Rattle.std.specs.Prelude.{[]}
use Rattle.spv_base.specs.declared.values.Pointer.{Pointer as Reference}
use Rattle.spv_sites.specs.declared.targets.Place.{Place}
use Rattle.spv_sites.specs.declared.targets.Place.TheVariants.{Whole, Part}

abbrev pub leading_to : Place → Reference
leading_to (Whole r) = record { root = r; path = [] }
leading_to (Part b) = b.value
