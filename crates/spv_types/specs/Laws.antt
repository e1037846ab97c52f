-- What the types of an accepted module give, and what its ids give to types and constants.
use Rattle.std.specs.Prelude.{◌≡◌, ◌↔◌, ℕ, ◌<◌, ◌||◌, true, List, [], ◌∷◌, ◌++◌, map, Option, Some}
use Rattle.std.specs.Option.{is_some}
use Rattle.std.specs.List.{Contains, AllByRecursion}
use Rattle.spv_base.specs.Order.{AreDistinct}
use Rattle.spv_base.specs.declared.instructions.Inst.{Inst}
use Rattle.spv_base.specs.declared.values.Root.{Root}
use Rattle.spv_base.specs.declared.values.Value.{Value}
use Rattle.spv_types.specs.declared.forms.Form.{Form}
use Rattle.spv_types.specs.Types.{IsUnset, Types, form_of, number_of}
use Rattle.spv_index.specs.Definitions.{before_functions}
use Rattle.spv_types.specs.Typing.{defined_form}
use Rattle.spv_types.specs.Constants.{is_constant}
use Rattle.spv_types.specs.Rules.{keeps_form}
use Rattle.spv_types.specs.Shapes.{HasShape, part_type, shape_step}

-- ---- types

-- a type is among the first n types
pub record IsAmong (ts : Types) (n id : ℕ) : Type 0 where
  pub number : ℕ
  pub is : number_of ts id ≡ Some number
  pub below : number < n

-- a type comes before another one
pub record ComesBefore (ts : Types) (part id : ℕ) : Type 0 where
  pub number : ℕ
  pub is : number_of ts id ≡ Some number
  pub among : IsAmong ts number part

-- each type keeps the rule of its form, and comes after its components, elements and members
pub record AreSound (ts : Types) : Type 0 where
  pub kept : (id : ℕ) (f : Form) → form_of ts id ≡ Some f → keeps_form ts f ≡ true
  pub ordered : (id index part : ℕ) (f : Form) → form_of ts id ≡ Some f → part_type f index ≡ Some part → ComesBefore ts part id

-- the shape of a type is made of its form and of the shapes of its parts
abbrev pub AreByForms : Types → (Root → Option ℕ) → Type 0
AreByForms ts roots = (id : ℕ) (f : Form) (v : Value) → form_of ts id ≡ Some f → HasShape ts roots id v ↔ shape_step ts roots (HasShape ts roots) f v

-- the arrays among the first n types have their lengths
abbrev pub AreComplete : Types → ℕ → Type 0
AreComplete ts n = (id : ℕ) → IsAmong ts n id → IsUnset (form_of ts id) → ⊥

-- ---- the ids of types and constants

-- Behind some instructions, the type of each constant is the result of an instruction before it.
abbrev pub TypesComeFirst : List Inst → List Inst → Type 0
TypesComeFirst before [] = Unit {0}
TypesComeFirst before (i ∷ is) = (is_constant i.op ≡ true → Contains (map (λ (j : Inst). j.id) before) i.ty) × TypesComeFirst (before ++ i ∷ []) is

-- an instruction that defines a type or a constant has a result
abbrev pub HasResult : List Inst → Inst → Type 0
HasResult all i = (is_some (defined_form all i) || is_constant i.op) ≡ true → (0 < i.id) × (i.id < 1048576)

-- no id is the result of two instructions, types and constants have ids, and constants come after their types
pub record AreNamed (insts : List Inst) : Type 0 where
  pub distinct : AreDistinct insts
  pub results : AllByRecursion (HasResult insts) insts
  pub types_first : TypesComeFirst [] (before_functions insts)
