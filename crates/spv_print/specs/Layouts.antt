-- The text of a value by its debug type (NonSemantic.Shader.DebugInfo.100, this project's profile): lists `[1, 2]`, structs `{x = 1, y = 2}`, and leaves. A
-- `...` stands once in each list or struct in place of its elements that would begin after 256 leaves and empty lists were written.
use Rattle.std.specs.Prelude.{ℕ, zero, suc, ◌+◌, ◌-◌, ◌/◌, ◌==◌, ◌&&◌, if◌then◌else◌, Bool, true, List, [], ◌∷◌, ◌++◌, length, slice_index, Option, Some, None}
use Rattle.std.specs.Option.{option_and_then, option_map_or}
use Rattle.spv_dbg.specs.declared.insts.DebugInst.{DebugInst}
use Rattle.spv_dbg.specs.Tables.{Tables, with_id}
use Rattle.spv_parts.specs.Arrays.{as_array}
use Rattle.spv_parts.specs.Composites.{members}
use Rattle.spv_parts.specs.Parts.{TypePart, literal, member_type, part_bits, plain, whole}
use Rattle.spv_print.specs.declared.leaves.Leaf.{Leaf}
use Rattle.spv_print.specs.declared.pieces.Piece.{Piece}
use Rattle.spv_print.specs.declared.pieces.Piece.TheVariants.{OpenList, CloseList, OpenStruct, CloseStruct, Separator, Rest, Name, Basic, Enum, Unavailable}
use Rattle.spv_print.specs.Leaves.{Bits, is_shown}
use Rattle.spv_print.specs.Pieces.{text_of}

-- what is written: its pieces, how many bits of the value it took, and how many leaves and empty lists may still be written
pub record Written : Type 0 where
  pub pieces : List Piece
  pub taken : ℕ
  pub left : ℕ

abbrev pub blank : Written
blank = record { pieces = []; taken = 0; left = 256 }

abbrev pub Change : Type 0
Change = Written → Written

-- a piece that is no leaf
abbrev pub put : Piece → Change
put piece s = record { pieces = s.pieces ++ piece ∷ []; taken = s.taken; left = s.left }

-- a leaf of so many bits, or the end of an empty list
abbrev pub put_leaf : Piece → ℕ → Change
put_leaf piece size s = record { pieces = s.pieces ++ piece ∷ []; taken = s.taken + size; left = s.left - 1 }

-- a type without bits that can be shown
abbrev pub put_unavailable : Change
put_unavailable s = put_leaf Unavailable 0 s

-- no more leaves may be written
abbrev pub is_full : Written → Bool
is_full s = s.left == 0

-- what stands before the element with a number
abbrev pub put_separator : ℕ → Change
put_separator number s = if number == 0 then s else put Separator s

-- what stands in place of the elements from the one with a number on
abbrev pub put_rest : ℕ → Change
put_rest number s = put Rest (put_separator number s)

-- ---- lists. An element, a member or a type is told whether it is the last part of the value.

-- so many elements from the one with a number on
abbrev pub put_elements : (Bool → Change) → Bool → ℕ → ℕ → Change
put_elements element last number zero s = s
put_elements element last number (suc more) s =
    if is_full s then put_rest number s else put_elements element last (number + 1) more (element (last && more == 0) (put_separator number s))

-- a list of so many elements between its brackets
abbrev pub put_list : (Bool → Change) → Bool → ℕ → Change
put_list element last zero s = put_leaf CloseList 0 (put OpenList s)
put_list element last (suc more) s = put CloseList (put_elements element last 0 (suc more) (put OpenList s))

-- the TypeMembers with these ids from the one with a number on, each under its name
abbrev pub put_members : (ℕ → Bool → Change) → Bool → ℕ → List ℕ → Change
put_members member last number [] s = s
put_members member last number (id ∷ ids) s =
    if is_full s then put_rest number s else put_members member last (number + 1) ids (member id (last && length ids == 0) (put (Name id) (put_separator number s)))

abbrev pub put_struct : (ℕ → Bool → Change) → Bool → List ℕ → Change
put_struct member last [] s = put_leaf CloseStruct 0 (put OpenStruct s)
put_struct member last (id ∷ ids) s = put CloseStruct (put_members member last 0 (id ∷ ids) (put OpenStruct s))

-- ---- types

-- the bits of a TypeBasic (2) that are next: Name, Size, Encoding
abbrev pub leaf_at : Tables → ℕ → DebugInst → Leaf
leaf_at t first d = record { first = first; size = literal t (slice_index d.operands 1); encoding = literal t (slice_index d.operands 2) }

-- the TypeBasic of 1 to 64 bits that a type is, seen through each TypeQualifier and Typedef
abbrev pub if_basic : Tables → DebugInst → Option DebugInst
if_basic t d = if d.number == 2 && is_shown (leaf_at t 0 d) then Some d else None

abbrev pub basic_of : Tables → ℕ → Option DebugInst
basic_of t type = option_and_then (if_basic t) (with_id t (plain t type))

-- as many whole elements as there are in so many bits, and none where an element has no bits
abbrev pub whole_in : ℕ → ℕ → ℕ
whole_in bits zero = 0
whole_in bits (suc k) = bits / suc k

module _ (t : Tables) (size : ℕ) where
  -- how many elements a Count gives: in the last part of a value a Count of 0 gives as many as bits are left
  abbrev pub count_at : Bool → ℕ → TypePart → Written → ℕ
  count_at last count element s = if last && literal t count == 0 then whole_in (size - s.taken) (part_bits t element) else literal t count

  -- a list of parts, by a Count
  abbrev pub put_counted : (Bool → TypePart → Change) → Bool → ℕ → TypePart → Change
  put_counted part last count element s = put_list (λ l. part l element) last (count_at last count element s) s

  -- an array by some Counts, where part says what is written of the parts of a type
  abbrev pub put_array : (Bool → TypePart → Change) → Bool → ℕ → List ℕ → Change
  put_array part last base [] s = put_unavailable s
  put_array part last base (count ∷ counts) s = put_counted part last count (record { base = base; counts = counts }) s

  abbrev pub put_basic : DebugInst → Change
  put_basic d s = put_leaf (Basic (leaf_at t s.taken d)) (leaf_at t s.taken d).size s

  -- a TypeEnum with its id, and the TypeBasic that it is over
  abbrev pub put_name : ℕ → DebugInst → Change
  put_name type d s = put_leaf (Enum (leaf_at t s.taken d) type) (leaf_at t s.taken d).size s

  -- a TypeEnum with its id and its Underlying
  abbrev pub put_enum : (Bool → TypePart → Change) → Bool → ℕ → ℕ → Change
  put_enum part last type underlying s = option_map_or {U = Change} (put_name type) (basic_of t underlying) (part last (whole underlying)) s

  -- a part without elements: TypeBasic (2), TypeEnum (9) and TypeComposite (10). No other type has bits.
  abbrev pub put_type : (Bool → TypePart → Change) → Bool → TypePart → DebugInst → Change
  put_type part last p d s =
      if d.number == 2 then put_basic d s
      else if d.number == 9 then put_enum part last (plain t p.base) (slice_index d.operands 1) s
      else if d.number == 10 then put_struct (λ id l. part l (whole (member_type t id))) last (members t p) s
      else put_unavailable s

  abbrev pub put_plain : (Bool → TypePart → Change) → Bool → TypePart → Change
  put_plain part last p s = option_map_or {U = Change} (put_type part last p) (with_id t (plain t p.base)) put_unavailable s

  -- a part of a type that is nested at most so many deep
  unfoldable pub put_part : ℕ → Bool → TypePart → Change
  put_part zero last p s = put_unavailable s
  put_part (suc n) last p s = option_map_or {U = Change} (λ (a : TypePart). put_array (put_part n) last a.base a.counts) (as_array t p) (put_plain (put_part n) last p) s

-- the pieces of the text of a part of a type with so many bits; a type is nested at most 64 deep
abbrev pub layout_of : Tables → TypePart → ℕ → List Piece
layout_of t p size = (put_part t size 64 true p blank).pieces

-- the text of a part of a type with so many bits, which these are
abbrev pub text : Tables → TypePart → ℕ → Bits → List ℕ
text t p size bits = text_of t bits (layout_of t p size)
