-- The value that a row is at a type: its leaves in order, and its parts of the types of the type's parts.
use Rattle.std.specs.Prelude.{ℕ, List, [], ◌∷◌, length}
use Rattle.spv_base.specs.Cell.{Cell, undefined_cell}
use Rattle.spv_base.specs.declared.values.Value.{Value, Scalar, List as Many}
use Rattle.spv_types.specs.declared.forms.Form.{Form}
use Rattle.spv_types.specs.declared.forms.Form.TheVariants.{Void, Bool as Boolean, Int, Vector, Array, Runtime, Struct, Pointer, Function}
use Rattle.spv_types.specs.Types.{Types, in_first}
use Rattle.spv_consts.specs.Values.{part_types}
use Rattle.spv_consts.specs.Table.{Row}

-- what reads a value off the front of some leaves, and gives the leaves behind it
abbrev pub Reader : Type 0
Reader = List Cell → Value × List Cell

abbrev pub read_scalar : Reader
read_scalar [] = (Scalar (undefined_cell 1), [])
read_scalar (c ∷ cs) = (Scalar c, cs)

-- values of some types, one after another
abbrev pub read_parts : (ℕ → Reader) → List ℕ → List Cell → List Value × List Cell
read_parts read [] cs = ([], cs)
read_parts read (t ∷ ts) cs = ((read t cs).0 ∷ (read_parts read ts (read t cs).1).0, (read_parts read ts (read t cs).1).1)

abbrev pub read_list : (ℕ → Reader) → List ℕ → Reader
read_list read ts cs = (Many (read_parts read ts cs).0, (read_parts read ts cs).1)

abbrev pub read_step : (ℕ → Reader) → Form → Reader
read_step read Void = read_list read (part_types Void)
read_step read Boolean = read_scalar
read_step read (Int width sign) = read_scalar
read_step read (Vector component count) = read_list read (part_types (Vector component count))
read_step read (Array element n stride) = read_list read (part_types (Array element n stride))
read_step read (Runtime element stride) = read_list read (part_types (Runtime element stride))
read_step read (Struct members block) = read_list read (part_types (Struct members block))
read_step read (Pointer class target) = read_list read (part_types (Pointer class target))
read_step read (Function returns parameters) = read_list read (part_types (Function returns parameters))

abbrev pub read_none : Reader
read_none cs = (Many [], cs)

unfoldable pub read_among : Types → ℕ → ℕ → Reader
read_among = in_first read_none read_step

-- the value of a type with these leaves
unfoldable pub value_at : Types → ℕ → List Cell → Value
value_at ts id cells = (read_among ts (length ts) id cells).0

-- the value of a constant
abbrev pub tree_of : Types → Row → Value
tree_of ts row = value_at ts row.ty row.cells
