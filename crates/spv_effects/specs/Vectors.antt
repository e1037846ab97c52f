-- The components of vectors: VectorExtractDynamic 77, VectorInsertDynamic 78 and VectorShuffle 79 (SPIR-V 1.6, section
-- "Composite Instructions"). An index is read as unsigned.
use Rattle.std.specs.Prelude.{ℕ, ◌==◌, ◌++◌, ◌&&◌, nat_lt, if◌then◌else◌, List, length, map, slice_index_or, slice_set}
use Rattle.spv_alu.specs.Results.{defined_if}
use Rattle.spv_alu.specs.Vectors.{component_width}
use Rattle.spv_base.specs.Cell.{Cell, undefined_cell}
use Rattle.spv_base.specs.declared.values.Value.{Value, Scalar}
use Rattle.spv_effects.specs.Lanes.{lane_of, of_lanes}
use Rattle.spv_types.specs.Rows.{leaves}

-- the component with a number; where there is none, an undefined one
abbrev pub component : List Cell → ℕ → Cell
component cs number = slice_index_or cs number (undefined_cell (component_width cs))

-- the component that an index names: not defined where the index isn't
abbrev pub extract_dynamic_value : Value → Value → Value
extract_dynamic_value v index = Scalar (defined_if (lane_of index).defined (component (leaves v) (lane_of index).bits))

-- the components with another in the place that an index names; none is defined where the index isn't, or names no place
abbrev pub with_component : List Cell → Cell → Cell → List Cell
with_component cs c index =
    if index.defined && nat_lt index.bits (length cs) then slice_set cs index.bits c else map (λ d. undefined_cell d.width) cs

abbrev pub insert_dynamic_value : Value → Value → Value → Value
insert_dynamic_value v c index = of_lanes (with_component (leaves v) (lane_of c) (lane_of index))

-- a component of a shuffle: that with a number among those of both vectors; 4294967295 stands for an undefined one
abbrev pub shuffled : List Cell → List Cell → ℕ → Cell
shuffled cs ds number = if number == 4294967295 then undefined_cell (component_width cs) else component (cs ++ ds) number

abbrev pub shuffle_value : Value → Value → List ℕ → Value
shuffle_value v u numbers = of_lanes (map (shuffled (leaves v) (leaves u)) numbers)
