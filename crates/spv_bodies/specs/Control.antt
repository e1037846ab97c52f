-- The rules of phis and of the ends of blocks (SPIR-V 1.6 section 3.42.17, and this project's profile: phis and returns give
-- no pointers but variable pointers into storage buffers).
use Rattle.std.specs.Prelude.{◌≡◌, ℕ, ◌&&◌, ◌||◌, not, Bool, true, false, List, [], ◌∷◌, Option, Some}
use Rattle.std.specs.List.{All}
use Rattle.std.specs.Option.{option_map_or}
use Rattle.spv_base.specs.declared.instructions.Inst.{Inst}
use Rattle.spv_base.specs.declared.instructions.Operand.{Operand}
use Rattle.spv_base.specs.Options.{holds}
use Rattle.spv_types.specs.declared.forms.Form.TheVariants.{Void, Bool as Boolean}
use Rattle.spv_types.specs.Types.{form_of}
use Rattle.spv_types.specs.Queries.{is_boolean, is_void}
use Rattle.spv_bodies.specs.Context.{HasType, IsInteger, Known, form_at, is_given, is_integer_at, type_at, type_in}

-- the first of each pair
abbrev pub firsts : List Operand → List Operand
firsts [] = []
firsts (o ∷ []) = o ∷ []
firsts (o ∷ p ∷ os) = o ∷ firsts os

-- Phi 245 (pairs of a value and a parent): the values have the result's type, which a phi may give
abbrev pub KeepsPhi : Known → Inst → Type 0
KeepsPhi k i = (is_given k (form_of k.types i.ty) ≡ true) × All (λ o. type_in k o ≡ Some i.ty) (firsts i.operands)

-- BranchConditional 250 (condition, labels): the condition is a Boolean
abbrev pub KeepsBranch : Known → Inst → Type 0
KeepsBranch k i = form_at k i 0 ≡ Some Boolean

-- Switch 251 (selector, ..): the selector is a scalar integer
abbrev pub KeepsSwitch : Known → Inst → Type 0
KeepsSwitch k i = IsInteger (form_at k i 0)

-- Return 253, in a function that returns a type: this is void
abbrev pub KeepsReturn : Known → Option ℕ → Type 0
KeepsReturn k returns = (ty : ℕ) × (returns ≡ Some ty) × (form_of k.types ty ≡ Some Void)

-- ReturnValue 254 (value): of the type that the function returns, which a function may return
abbrev pub KeepsReturnValue : Known → Option ℕ → Inst → Type 0
KeepsReturnValue k returns i = (ty : ℕ) × (returns ≡ Some ty) × (HasType k i 0 ty × (is_given k (form_of k.types ty) ≡ true))

-- ---- the same as tests

-- operands of which every second one is a value, of one type
abbrev pub are_values : Known → ℕ → Bool → List Operand → Bool
are_values k ty value [] = true
are_values k ty value (o ∷ os) = (not value || holds ty (type_in k o)) && are_values k ty (not value) os

abbrev pub keeps_phi : Known → Inst → Bool
keeps_phi k i = is_given k (form_of k.types i.ty) && are_values k i.ty true i.operands

abbrev pub keeps_branch : Known → Inst → Bool
keeps_branch k i = is_boolean (form_at k i 0)

abbrev pub keeps_switch : Known → Inst → Bool
keeps_switch k i = is_integer_at k i 0

abbrev pub keeps_return : Known → Option ℕ → Bool
keeps_return k returns = option_map_or (λ ty. is_void (form_of k.types ty)) returns false

abbrev pub keeps_return_value : Known → Option ℕ → Inst → Bool
keeps_return_value k returns i = option_map_or (λ ty. holds ty (type_at k i 0) && is_given k (form_of k.types ty)) returns false
