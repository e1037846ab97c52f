-- The rules of access chains (SPIR-V 1.6 section 3.42.8, "OpAccessChain"). A struct is indexed by an OpConstant alone.
use Rattle.std.specs.Prelude.{◌≡◌, ℕ, ◌-◌, ◌^◌, ◌==◌, ◌&&◌, nat_lt, Bool, false, if◌then◌else◌, List, [], ◌∷◌, drop, Option, Some, None}
use Rattle.std.specs.Option.{option_map_or, option_and_then}
use Rattle.spv_base.specs.Cell.{Cell}
use Rattle.spv_base.specs.declared.instructions.Inst.{Inst}
use Rattle.spv_base.specs.declared.instructions.Operand.{Operand}
use Rattle.spv_base.specs.Options.{holds}
use Rattle.spv_types.specs.declared.forms.Form.{Form}
use Rattle.spv_types.specs.declared.forms.Form.TheVariants.{Vector, Array, Runtime, Struct}
use Rattle.spv_types.specs.Types.{form_of}
use Rattle.spv_index.specs.Definitions.{defining}
use Rattle.spv_types.specs.declared.queries.Pointed.{Pointed}
use Rattle.spv_types.specs.Queries.{is_integer, member_type, pointee}
use Rattle.spv_consts.specs.Table.{scalar_of}
use Rattle.spv_index.specs.Operands.{id_in}
use Rattle.spv_bodies.specs.Context.{IsPointerTo, Known, PointsTo, pointee_at, type_of}

-- a scalar's number, where it is defined and not below 0 when it is read as signed
abbrev pub index_in : Cell → Option ℕ
index_in c = if c.defined && nat_lt c.bits (2 ^ (c.width - 1)) then Some c.bits else None

-- an OpConstant 43, and no other constant
abbrev pub is_literal : Known → ℕ → Bool
is_literal k id = option_map_or (λ (i : Inst). i.op == 43) (defining k.insts id) false

-- the member that a struct's index names
abbrev pub member_number : Known → ℕ → Option ℕ
member_number k index = if is_literal k index then option_and_then index_in (scalar_of k.consts index) else None

-- the part of a type that an index leads to
abbrev pub part_by : Known → ℕ → Option Form → Option ℕ
part_by k index (Some (Vector component count)) = Some component
part_by k index (Some (Array element length stride)) = Some element
part_by k index (Some (Runtime element stride)) = Some element
part_by k index (Some (Struct members block)) = option_and_then (member_type members) (member_number k index)
part_by k index _ = None

-- the form of an id's type
abbrev pub form_in : Known → ℕ → Option Form
form_in k id = option_and_then (form_of k.types) (type_of k id)

-- the same, where the index is a scalar integer
abbrev pub inner : Known → ℕ → ℕ → Option ℕ
inner k ty index = if is_integer (form_in k index) then part_by k index (form_of k.types ty) else None

-- the type that some indexes reach
abbrev pub reached_type : Known → ℕ → List Operand → Option ℕ
reached_type k ty [] = Some ty
reached_type k ty (o ∷ os) = option_and_then (λ t. reached_type k t os) (option_and_then (inner k ty) (id_in o))

-- the result is a pointer of the base's class to the type that the operands behind the first n reach from the base's target
abbrev pub Reaches : Known → Inst → ℕ → Pointed → Type 0
Reaches k i n p = (q : Pointed) × IsPointerTo (form_of k.types i.ty) q × ((q.class ≡ p.class) × (reached_type k p.target (drop n i.operands) ≡ Some q.target))

-- AccessChain 65 and InBoundsAccessChain 66 (base, indexes)
abbrev pub KeepsChain : Known → Inst → Type 0
KeepsChain k i = (p : Pointed) × PointsTo k i 0 p × Reaches k i 1 p

-- ---- the same as a test

abbrev pub reaches_from : Known → Inst → ℕ → Pointed → Pointed → Bool
reaches_from k i n p q = q.class == p.class && holds q.target (reached_type k p.target (drop n i.operands))

abbrev pub reaches : Known → Inst → ℕ → Pointed → Bool
reaches k i n p = option_map_or (reaches_from k i n p) (pointee (form_of k.types i.ty)) false

abbrev pub keeps_chain : Known → Inst → Bool
keeps_chain k i = option_map_or (reaches k i 1) (pointee_at k i 0) false
