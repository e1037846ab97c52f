-- The operations on all lanes of a vector (SPIR-V 1.6, sections "Relational and Logical Instructions" and "Conversion Instructions").
use Rattle.std.specs.Prelude.{ℕ, zero, suc, ◌+◌, ◌*◌, ◌/◌, ◌%◌, ◌==◌, ◌&&◌, Bool, true, List, slice_index_or, Option, [], ◌∷◌}
use Rattle.std.specs.Int.{bit_at}
use Rattle.std.specs.List.{list_any, list_all}
use Rattle.std.specs.Option.{option_map}
use Rattle.spv_base.specs.Entries.{reads}
use Rattle.spv_base.specs.Cell.{Cell, defined_cell, undefined_cell}
use Rattle.spv_alu.specs.Integers.{number_of_bits}
use Rattle.spv_alu.specs.Results.{truth, defined_if}
use Rattle.spv_alu.specs.declared.vector_op.VectorOp.{VectorOp}
use Rattle.spv_alu.specs.declared.vector_op.VectorOp.TheVariants.{Any, All}

-- the table: whether one lane, or every lane, is true
unfoldable pub vector_row : VectorOp → List Cell → Bool
vector_row Any lanes = list_any (λ c. c.bits == 1) lanes
vector_row All lanes = list_all (λ c. c.bits == 1) lanes

-- the operation on the lanes of a vector: not defined where one isn't
abbrev pub vector_lane : VectorOp → List Cell → Cell
vector_lane op lanes = defined_if (list_all (λ c. c.defined) lanes) (truth (vector_row op lanes))

-- each operation under its opcode
abbrev pub vector_opcodes : List (ℕ × VectorOp)
vector_opcodes =
    (154, Any) ∷ (155, All) ∷ []

-- the operation of an opcode
unfoldable pub vector_op : ℕ → Option VectorOp
vector_op number = reads number vector_opcodes

-- the operation of an opcode on the lanes of a vector, if the opcode is one of them
unfoldable pub any_all_of : ℕ → List Cell → Option Cell
any_all_of number lanes = option_map (λ op. vector_lane op lanes) (vector_op number)

-- the width of the components of a vector
abbrev pub component_width : List Cell → ℕ
component_width lanes = (slice_index_or lanes 0 (undefined_cell 0)).width

-- the component that has bit `place` of all components joined, the first the lowest
abbrev pub component_at : List Cell → ℕ → Cell
component_at lanes place = slice_index_or lanes (place / component_width lanes) (undefined_cell 0)

abbrev pub joined_bit : List Cell → ℕ → ℕ
joined_bit lanes place = bit_at (component_at lanes place).bits (place % component_width lanes)

-- a test holds of each number below k
unfoldable pub all_below : ℕ → (ℕ → Bool) → Bool
all_below zero test = true
all_below (suc k) test = all_below k test && test k

-- OpBitcast: the component of width w and number `index` has as many bits from place `index * w` on,
-- and is defined where each component that one of them is from is
unfoldable pub bitcast_of : List Cell → ℕ → ℕ → Cell
bitcast_of lanes w index =
    defined_if (all_below w (λ i. (component_at lanes (index * w + i)).defined)) (defined_cell w (number_of_bits w (λ i. joined_bit lanes (index * w + i))))
