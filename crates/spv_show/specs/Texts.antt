-- The text of a value at its type: integers by their type's sign, `true` and `false`, vectors and arrays `[1, 2]`, structs
-- `{0 = 1, 1 = 2}`, pointers `&%ROOT` and `[I]` for each index, and undefined scalars `<undefined>`. At most 256 leaves and empty lists are
-- written: `...` stands once in each list or struct in place of its elements that would begin after them.
use Rattle.std.specs.Prelude.{ℕ, ◌+◌, List, [], ◌∷◌, length, map, Option, Some, None}
use Rattle.spv_base.specs.Parts.{parts_in}
use Rattle.spv_base.specs.declared.values.Value.{Value, out-Value}
use Rattle.spv_types.specs.declared.forms.Form.{Form}
use Rattle.spv_types.specs.declared.forms.Form.TheVariants.{Void, Bool as Boolean, Int, Vector, Array, Runtime, Struct, Pointer, Function}
use Rattle.spv_types.specs.declared.forms.Member.{Member}
use Rattle.spv_types.specs.Shapes.{pointer_in, scalar_in}
use Rattle.spv_types.specs.Types.{Types, in_first}
use Rattle.spv_show.specs.declared.scalars.Reading.TheVariants as reading
use Rattle.spv_show.specs.Lists.{Writer, leaf, named, row_text, struct_text}
use Rattle.spv_show.specs.Pointers.{pointer_if_any}
use Rattle.spv_show.specs.Scalars.{reading_of, scalar_if_any, unavailable}

-- what is written of a value
abbrev pub Text : Type 0
Text = Value → Writer

-- A value that its type doesn't have is not available.
abbrev pub no_text : Text
no_text v left = leaf unavailable left

-- the elements of a vector or an array
abbrev pub row_if_any : Text → Option (List Value) → Writer
row_if_any text None left = leaf unavailable left
row_if_any text (Some vs) left = row_text (map text vs) left

-- the members of a struct from the one with a number on, each under its number
abbrev pub members_text : (ℕ → Text) → ℕ → List Member → List Value → List Writer
members_text text number [] vs = []
members_text text number (m ∷ ms) [] = []
members_text text number (m ∷ ms) (v ∷ vs) = named number (text m.ty v) ∷ members_text text (number + 1) ms vs

abbrev pub struct_if_any : (ℕ → Text) → List Member → Option (List Value) → Writer
struct_if_any text members None left = leaf unavailable left
struct_if_any text members (Some vs) left = struct_text (members_text text 0 members vs) left

-- a value of a form, where text says what is written of the values of its parts' types
abbrev pub text_step : (ℕ → Text) → Form → Text
text_step text Void v = no_text v
text_step text Boolean v = leaf (scalar_if_any reading.Boolean (scalar_in (out-Value v)))
text_step text (Int width sign) v = leaf (scalar_if_any (reading_of sign) (scalar_in (out-Value v)))
text_step text (Vector component count) v = row_if_any (text component) (parts_in (out-Value v))
text_step text (Array element n stride) v = row_if_any (text element) (parts_in (out-Value v))
text_step text (Runtime element stride) v = row_if_any (text element) (parts_in (out-Value v))
text_step text (Struct members block) v = struct_if_any text members (parts_in (out-Value v))
text_step text (Pointer class target) v = leaf (pointer_if_any (pointer_in (out-Value v)))
text_step text (Function returns parameters) v = no_text v

-- what is written of a value of the type with an id, where it is among the first n types
unfoldable pub text_among : Types → ℕ → ℕ → Text
text_among = in_first no_text text_step

-- the text of a value of the type with an id
unfoldable pub value_text : Types → ℕ → Value → List ℕ
value_text ts id v = (text_among ts (length ts) id v 256).text
