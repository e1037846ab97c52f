-- What the rules of function bodies ask about: the types of a module, the values of its constants, its instructions, its
-- imported sets, and whether it declares variable pointers. The type of an id is the type that the id's instruction has
-- (SPIR-V 1.6 section 2.2.1).
use Rattle.std.specs.Prelude.{◌≡◌, ℕ, ◌==◌, ◌&&◌, Bool, true, false, if◌then◌else◌, List, Option, Some, None}
use Rattle.std.specs.Option.{is_some, option_and_then}
use Rattle.spv_base.specs.declared.instructions.Inst.{Inst}
use Rattle.spv_base.specs.declared.instructions.Operand.{Operand}
use Rattle.spv_consts.specs.Table.{Constants}
use Rattle.spv_types.specs.declared.forms.Form.{Form}
use Rattle.spv_types.specs.declared.forms.Form.TheVariants.{Int, Pointer, Vector}
use Rattle.spv_types.specs.Constants.{is_constant}
use Rattle.spv_types.specs.Types.{Types, form_of}
use Rattle.spv_index.specs.Definitions.{defining, result_type}
use Rattle.spv_index.specs.Operands.{id_in, id_operand}
use Rattle.spv_index.specs.Classes.{sets_of}
use Rattle.spv_types.specs.declared.queries.Components.{Components}
use Rattle.spv_types.specs.declared.queries.Pointed.{Pointed}
use Rattle.spv_types.specs.Queries.{is_integer, pointee}
use Rattle.spv_sections.specs.Capabilities.{declares_variable_pointers}

pub record Known : Type 0 where
  pub types : Types
  pub consts : Constants
  pub insts : List Inst
  pub sets : List (ℕ × Bool)  -- the imported sets, each with whether it has no meaning at run time
  pub pointers : Bool  -- it declares variable pointers

abbrev pub known_of : Types → Constants → List Inst → Known
known_of ts cs insts = record { types = ts; consts = cs; insts = insts; sets = sets_of insts; pointers = declares_variable_pointers insts }

-- the type of an id, where it has one
abbrev pub type_of : Known → ℕ → Option ℕ
type_of k id = result_type k.insts id

abbrev pub constant_by : Inst → Option ℕ
constant_by i = if is_constant i.op then Some i.ty else None

-- the type of an id's constant; an OpUndef is none
abbrev pub constant_in : Known → ℕ → Option ℕ
constant_in k id = option_and_then constant_by (defining k.insts id)

-- What phis, selects, calls and returns may give: a value of any type but a pointer type, and with variable pointers a pointer
-- into a StorageBuffer 12 too.
abbrev pub is_given : Known → Option Form → Bool
is_given k (Some (Pointer class target)) = k.pointers && class == 12
is_given k _ = true

-- the type of the id that an operand is
abbrev pub type_in : Known → Operand → Option ℕ
type_in k o = option_and_then (type_of k) (id_in o)

-- ---- of the id at a place among an instruction's operands

abbrev pub type_at : Known → Inst → ℕ → Option ℕ
type_at k i n = option_and_then (type_of k) (id_operand i n)

abbrev pub form_at : Known → Inst → ℕ → Option Form
form_at k i n = option_and_then (form_of k.types) (type_at k i n)

-- the type of a constant
abbrev pub constant_at : Known → Inst → ℕ → Option ℕ
constant_at k i n = option_and_then (constant_in k) (id_operand i n)

-- ---- what is said of it

-- a type that holds integers of a width and sign, one at a time
abbrev pub IsInteger : Option Form → Type 0
IsInteger f = (width : ℕ) × (sign : ℕ) × (f ≡ Some (Int width sign))

abbrev pub IsPointerTo : Option Form → Pointed → Type 0
IsPointerTo f p = f ≡ Some (Pointer p.class p.target)

-- a pointer into a StorageBuffer 12
abbrev pub IsBufferPointer : Option Form → Type 0
IsBufferPointer f = (target : ℕ) × (f ≡ Some (Pointer 12 target))

abbrev pub IsVectorOf : Option Form → Components → Type 0
IsVectorOf f v = f ≡ Some (Vector v.ty v.count)

abbrev pub HasType : Known → Inst → ℕ → ℕ → Type 0
HasType k i n ty = type_at k i n ≡ Some ty

-- a pointer, by its class and target
abbrev pub PointsTo : Known → Inst → ℕ → Pointed → Type 0
PointsTo k i n p = IsPointerTo (form_at k i n) p

-- a constant of any type; an OpUndef is none
abbrev pub IsConstantAt : Known → Inst → ℕ → Type 0
IsConstantAt k i n = (ty : ℕ) × (constant_at k i n ≡ Some ty)

-- ---- the same as tests

-- a scalar integer
abbrev pub is_integer_at : Known → Inst → ℕ → Bool
is_integer_at k i n = is_integer (form_at k i n)

abbrev pub is_buffer_pointer : Option Form → Bool
is_buffer_pointer (Some (Pointer class target)) = class == 12
is_buffer_pointer _ = false

-- where a pointer leads
abbrev pub pointee_at : Known → Inst → ℕ → Option Pointed
pointee_at k i n = pointee (form_at k i n)

abbrev pub is_constant_at : Known → Inst → ℕ → Bool
is_constant_at k i n = is_some (constant_at k i n)
