-- Types that match logically (SPIR-V 1.6 section 3.42.12, "OpCopyLogical"): they are one, or agree but for decorations. Offsets,
-- strides and Block are not looked at.
use Rattle.std.specs.Prelude.{◌≡◌, ◌⊎◌, ℕ, ◌==◌, ◌&&◌, ◌||◌, Bool, true, false, List, [], ◌∷◌, length, Option, Some, None}
use Rattle.std.specs.Option.{option_and_then, option_map, option_map_or}
use Rattle.spv_base.specs.declared.instructions.Inst.{Inst}
use Rattle.spv_types.specs.declared.forms.Form.{Form}
use Rattle.spv_types.specs.declared.forms.Form.TheVariants.{Void, Bool as Boolean, Int, Vector, Array, Runtime, Struct, Pointer, Function}
use Rattle.spv_types.specs.declared.forms.Member.{Member}
use Rattle.spv_types.specs.Types.{Types, form_of, in_first}
use Rattle.spv_typing.specs.Fitting.{is_selectable}
use Rattle.spv_bodies.specs.Context.{HasType, Known, type_at}

-- a type written out, as nested pairs of numbers
pub data Term : Type 0 where
  Number : ℕ → Term
  Pair : Term → Term → Term

-- members one after another, ended by 0
abbrev pub members_term : (ℕ → Option Term) → List Member → Option Term
members_term term [] = Some (Number 0)
members_term term (m ∷ ms) = option_and_then (λ t. option_map (Pair t) (members_term term ms)) (term m.ty)

-- as many parts, by the opcode of their type
abbrev pub repeated : ℕ → ℕ → Term → Term
repeated opcode count part = Pair (Number opcode) (Pair part (Number count))

abbrev pub array_term : Option ℕ → Option Term → Option Term
array_term None part = None
array_term (Some count) part = option_map (repeated 28 count) part

-- A form is written out by its opcode and its numbers, and each part, where the other types are written out, by what is written
-- of it: TypeBool 20, TypeInt 21 (width, sign), TypeVector 23 (component, count), TypeArray 28 (element, length), TypeStruct 30
-- (members). Other types match themselves alone.
abbrev pub form_term : (ℕ → Option Term) → Form → Option Term
form_term term Void = None
form_term term Boolean = Some (Number 20)
form_term term (Int width sign) = Some (Pair (Number 21) (Pair (Number width) (Number sign)))
form_term term (Vector component count) = option_map (repeated 23 count) (term component)
form_term term (Array element length stride) = array_term length (term element)
form_term term (Runtime element stride) = None
form_term term (Struct members block) = option_map (Pair (Number 30)) (members_term term members)
form_term term (Pointer class target) = None
form_term term (Function returns parameters) = None

-- what is written of a type among the first n types, which are those that its parts stand among
unfoldable pub term_among : Types → ℕ → ℕ → Option Term
term_among ts = in_first None form_term ts

abbrev pub term_of : Types → ℕ → Option Term
term_of ts id = term_among ts (length ts) id

-- two types are one, or both are written out in the same way
abbrev pub Match : Types → ℕ → ℕ → Type 0
Match ts a b = (a ≡ b) ⊎ ((t : Term) × (term_of ts a ≡ Some t) × (term_of ts b ≡ Some t))

-- CopyLogical 400 (operand): its type matches the result's, which is no pointer type
abbrev pub KeepsCopyLogical : Known → Inst → Type 0
KeepsCopyLogical k i = (is_selectable (form_of k.types i.ty) ≡ true) × ((ty : ℕ) × HasType k i 0 ty × Match k.types ty i.ty)

-- ---- the same as tests

abbrev pub same_term : Term → Term → Bool
same_term (Number n) (Number m) = n == m
same_term (Number n) (Pair u v) = false
same_term (Pair s t) (Number m) = false
same_term (Pair s t) (Pair u v) = same_term s u && same_term t v

abbrev pub same_terms : Option Term → Option Term → Bool
same_terms None u = false
same_terms (Some t) None = false
same_terms (Some t) (Some u) = same_term t u

abbrev pub do_match : Types → ℕ → ℕ → Bool
do_match ts a b = a == b || same_terms (term_of ts a) (term_of ts b)

abbrev pub keeps_copy_logical : Known → Inst → Bool
keeps_copy_logical k i = is_selectable (form_of k.types i.ty) && option_map_or (λ ty. do_match k.types ty i.ty) (type_at k i 0) false
