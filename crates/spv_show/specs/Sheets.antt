-- What stands on a sheet after more of the row of a value was written on it. Clauses of private calls alone cite it: what the public ones
-- promise is the text of the value.
use Rattle.std.specs.Prelude.{ℕ, ◌+◌, ◌-◌, ◌==◌, if◌then◌else◌, Bool, List, [], ◌∷◌, ◌++◌, replicate, slice_get, codes, decimal, Option, Some, None}
use Rattle.spv_base.specs.Cell.{Cell}
use Rattle.spv_types.specs.declared.forms.Form.{Form}
use Rattle.spv_types.specs.declared.forms.Form.TheVariants.{Void, Bool as Boolean, Int, Vector, Array, Runtime, Struct, Pointer, Function}
use Rattle.spv_types.specs.declared.forms.Member.{Member}
use Rattle.spv_types.specs.Types.{Types, in_first}
use Rattle.spv_show.specs.declared.scalars.Reading.{Reading}
use Rattle.spv_show.specs.declared.scalars.Reading.TheVariants as reading
use Rattle.spv_show.specs.Lists.{separator}
use Rattle.spv_show.specs.Scalars.{reading_of, scalar_text, unavailable}

-- a text, the cells taken of a row, and how many leaves and empty lists may still be written
pub record Written : Type 0 where
  pub text : List ℕ
  pub taken : ℕ
  pub left : ℕ

-- nothing
abbrev pub blank : Written
blank = record { text = []; taken = 0; left = 256 }

-- no more leaves may be written
abbrev pub is_full : Written → Bool
is_full s = s.left == 0

abbrev pub Change : Type 0
Change = Written → Written

-- a text that is no leaf
abbrev pub put : List ℕ → Change
put text s = record { text = s.text ++ text; taken = s.taken; left = s.left }

-- a leaf, or an empty list
abbrev pub put_leaf : List ℕ → Change
put_leaf text s = record { text = s.text ++ text; taken = s.taken; left = s.left - 1 }

-- the next cell, where there is one
abbrev pub put_next : Reading → Option Cell → Change
put_next reading None s = put_leaf unavailable s
put_next reading (Some c) s = record { text = s.text ++ scalar_text reading c; taken = s.taken + 1; left = s.left - 1 }

abbrev pub put_cell : List Cell → Reading → Change
put_cell cells reading s = put_next reading (slice_get cells s.taken) s

-- what stands in place of the elements from the one with a number on
abbrev pub put_rest : ℕ → Change
put_rest number s = put (codes "...") (put (separator number) s)

-- the elements of a list from the one with a number on
abbrev pub put_elements : ℕ → List Change → Change
put_elements number [] s = s
put_elements number (c ∷ cs) s = if is_full s then put_rest number s else put_elements (number + 1) cs (c (put (separator number) s))

-- a list between its brackets
abbrev pub put_bracketed : List ℕ → List ℕ → List Change → Change
put_bracketed before after [] s = put_leaf (before ++ after) s
put_bracketed before after (c ∷ cs) s = put after (put_elements 0 (c ∷ cs) (put before s))

abbrev pub put_row : List Change → Change
put_row cs s = put_bracketed (codes "[") (codes "]") cs s

abbrev pub put_array : Change → Option ℕ → Change
put_array c None s = put_leaf unavailable s
put_array c (Some n) s = put_row (replicate n c) s

-- the member with a number
abbrev pub put_named : ℕ → Change → Change
put_named number c s = c (put (codes " = ") (put (decimal number) s))

-- the members of a struct from the one with a number on
abbrev pub put_members : (ℕ → Change) → ℕ → List Member → List Change
put_members change number [] = []
put_members change number (m ∷ ms) = put_named number (change m.ty) ∷ put_members change (number + 1) ms

abbrev pub put_struct : List Change → Change
put_struct cs s = put_bracketed (codes "{") (codes "}") cs s

-- a value of a form that lies next, where change says how one of a part's type is written
abbrev pub put_step : List Cell → (ℕ → Change) → Form → Change
put_step cells change Void s = put_leaf unavailable s
put_step cells change Boolean s = put_cell cells reading.Boolean s
put_step cells change (Int width sign) s = put_cell cells (reading_of sign) s
put_step cells change (Vector component count) s = put_row (replicate count (change component)) s
put_step cells change (Array element n stride) s = put_array (change element) n s
put_step cells change (Runtime element stride) s = put_leaf unavailable s
put_step cells change (Struct members block) s = put_struct (put_members change 0 members) s
put_step cells change (Pointer class target) s = put_leaf unavailable s
put_step cells change (Function returns parameters) s = put_leaf unavailable s

-- a value of the type with an id that lies next, where the type is among the first n types
unfoldable pub put_among : Types → List Cell → ℕ → ℕ → Change
put_among ts cells = in_first (put_leaf unavailable) (put_step cells) ts
