-- The values that variables of blocks begin with: read from the bytes of a buffer, by offsets and strides (SPIR-V 1.6 section 3.20,
-- Offset and ArrayStride).
use Rattle.std.specs.Prelude.{ℕ, zero, suc, ◌+◌, List, [], ◌∷◌, length, unwrap_or}
use Rattle.spv_base.specs.Cell.{undefined_cell}
use Rattle.spv_base.specs.declared.values.Value.{Value, Scalar, List as Many}
use Rattle.spv_types.specs.declared.forms.Form.{Form}
use Rattle.spv_types.specs.declared.forms.Form.TheVariants.{Void, Bool as Boolean, Int, Vector, Array, Runtime, Struct, Pointer, Function}
use Rattle.spv_types.specs.declared.forms.Member.{Member}
use Rattle.spv_types.specs.Places.{scalar_bytes, elements_in}
use Rattle.spv_types.specs.Types.{Types, form_of, in_first}
use Rattle.spv_start.specs.Numbers.{scalar_at}

-- what a value is that begins at a place
abbrev pub Reader : Type 0
Reader = ℕ → Value

-- so many values, each a stride behind the one before it
abbrev pub read_row : Reader → ℕ → ℕ → ℕ → List Value
read_row read at stride zero = []
read_row read at stride (suc n) = read at ∷ read_row read (at + stride) stride n

-- the members of a struct that begins at a place, each at its offset
abbrev pub read_members : (ℕ → Reader) → ℕ → List Member → List Value
read_members read at [] = []
read_members read at (m ∷ ms) = read m.ty (at + unwrap_or m.offset 0) ∷ read_members read at ms

-- A value of a form, where read gives those of its parts, from so many bytes, of which those behind the ones written out are 0. What
-- isn't in a block has no bytes: a Boolean is undefined, and all else that has no parts has none here.
abbrev pub read_step : Types → List ℕ → ℕ → (ℕ → Reader) → Form → Reader
read_step ts bytes size read Void at = Many []
read_step ts bytes size read Boolean at = Scalar (undefined_cell 1)
read_step ts bytes size read (Int width sign) at = Scalar (scalar_at bytes at width)
read_step ts bytes size read (Vector component count) at = Many (read_row (read component) at (scalar_bytes (form_of ts component)) count)
read_step ts bytes size read (Array element n stride) at = Many (read_row (read element) at (unwrap_or stride 0) (unwrap_or n 0))
read_step ts bytes size read (Runtime element stride) at = Many (read_row (read element) at (unwrap_or stride 0) (elements_in size at stride))
read_step ts bytes size read (Struct members block) at = Many (read_members read at members)
read_step ts bytes size read (Pointer class target) at = Many []
read_step ts bytes size read (Function returns parameters) at = Many []

abbrev pub read_none : Reader
read_none at = Many []

unfoldable pub read_among : Types → List ℕ → ℕ → ℕ → ℕ → Reader
read_among ts bytes size = in_first read_none (read_step ts bytes size) ts

-- the value of the type with an id that so many bytes are, of which those behind the ones written out are 0
unfoldable pub value_in : Types → List ℕ → ℕ → ℕ → Value
value_in ts bytes size id = read_among ts bytes size (length ts) id 0
