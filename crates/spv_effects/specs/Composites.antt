-- Composites: CompositeConstruct 80, CompositeExtract 81, CompositeInsert 82, CopyObject 83 and CopyLogical 400 (SPIR-V 1.6,
-- section "Composite Instructions"). Each leaf keeps its mark. What an extraction and an insertion give is said by `part_at`
-- and `with_part`, and a copy is the value itself, under whatever type of the same form.
use Rattle.std.specs.Prelude.{ℕ, List, length}
use Rattle.std.specs.List.{flat_map}
use Rattle.spv_base.specs.declared.values.Value.{Value}
use Rattle.spv_effects.specs.Lanes.{of_lanes}
use Rattle.spv_types.specs.Rows.{leaves}

-- a vector of scalars and vectors, whose components stand one behind the other
abbrev pub joined_value : List Value → Value
joined_value parts = of_lanes (flat_map leaves parts)

-- how many leaves some values have together
abbrev pub leaves_in : List Value → ℕ
leaves_in parts = length (flat_map leaves parts)
