-- OpBitcast 124: the bits of a scalar or a vector, as lanes of another width (SPIR-V 1.6, section "Conversion Instructions").
use Rattle.std.specs.Prelude.{ℕ, ◌*◌, ◌≤◌, List, length, map}
use Rattle.std.specs.List.{range_with_len}
use Rattle.spv_alu.specs.Integers.{IsWidth}
use Rattle.spv_alu.specs.Vectors.{bitcast_of, component_width}
use Rattle.spv_base.specs.Cell.{Cell}
use Rattle.spv_base.specs.declared.values.Value.{Value}
use Rattle.spv_effects.specs.Lanes.{of_lanes}
use Rattle.spv_types.specs.Rows.{leaves}

-- the result, of so many lanes of a width
abbrev pub bitcast_value : ℕ → ℕ → Value → Value
bitcast_value count width a = of_lanes (map (bitcast_of (leaves a) width) (range_with_len 0 count))

-- lanes that have the bits of so many lanes of a width
pub record MayCast (count width : ℕ) (cs : List Cell) : Type 0 where
  pub from : IsWidth (component_width cs)
  pub to : IsWidth width
  pub bits : count * width ≤ length cs * component_width cs
