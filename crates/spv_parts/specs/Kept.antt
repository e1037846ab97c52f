-- Parts and places as the code keeps them. Numbers of bits stop at the greatest of 64 bits there.
use Rattle.std.specs.Prelude.{ℕ}
use Rattle.spv_base.specs.Saturation.{saturated}
use Rattle.spv_parts.specs.declared.parts.Place.{Place}
use Rattle.spv_parts.specs.declared.parts.TypePart as type_part
use Rattle.spv_parts.specs.Parts.{TypePart}

abbrev pub kept_part : type_part.TypePart → TypePart
kept_part p = record { base = p.base; counts = p.counts.now }

abbrev pub kept_place : Place → ℕ × TypePart
kept_place p = (p.start, kept_part p.part)

abbrev pub saturated_place : ℕ × TypePart → ℕ × TypePart
saturated_place p = (saturated p.0, p.1)
