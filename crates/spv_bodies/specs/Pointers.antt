-- The rules of variable pointers, which lead into storage buffers alone (SPIR-V 1.6 sections 2.16.1, 3.42.8 and 3.42.15, and
-- this project's profile).
use Rattle.std.specs.Prelude.{◌≡◌, ◌⊎◌, ℕ, ◌==◌, ◌&&◌, ◌||◌, Bool, true, false, Some}
use Rattle.std.specs.Option.{option_map_or}
use Rattle.spv_base.specs.declared.instructions.Inst.{Inst}
use Rattle.spv_base.specs.Options.{holds}
use Rattle.spv_types.specs.declared.forms.Form.TheVariants.{Bool as Boolean}
use Rattle.spv_types.specs.Types.{form_of}
use Rattle.spv_types.specs.declared.queries.Pointed.{Pointed}
use Rattle.spv_types.specs.Queries.{is_boolean}
use Rattle.spv_bodies.specs.Chains.{Reaches, reaches}
use Rattle.spv_bodies.specs.Context.{HasType, IsBufferPointer, IsInteger, Known, PointsTo, form_at, is_buffer_pointer, is_integer_at, pointee_at, type_at}
use Rattle.spv_bodies.specs.Lanes.{KeepsLanes, keeps_lanes}

-- Select 169 of pointers, where the module declares variable pointers: one Boolean chooses between two of the result's type
abbrev pub KeepsPointerSelect : Known → Inst → Type 0
KeepsPointerSelect k i =
    (k.pointers ≡ true) × ((form_at k i 0 ≡ Some Boolean) × ((HasType k i 1 i.ty × HasType k i 2 i.ty) × IsBufferPointer (form_of k.types i.ty)))

-- Select 169 (condition, object, object): of lanes, or of pointers
abbrev pub KeepsSelect : Known → Inst → Type 0
KeepsSelect k i = KeepsLanes k i ⊎ KeepsPointerSelect k i

-- PtrAccessChain 67 (base, element, indexes): the indexes reach the result's type as those of an AccessChain
abbrev pub KeepsPtrChain : Known → Inst → Type 0
KeepsPtrChain k i = (p : Pointed) × PointsTo k i 0 p × ((p.class ≡ 12) × (IsInteger (form_at k i 1) × Reaches k i 2 p))

-- PtrEqual 401 and PtrNotEqual 402 (pointer, pointer): two of one type
abbrev pub KeepsPtrEqual : Known → Inst → Type 0
KeepsPtrEqual k i =
    (form_of k.types i.ty ≡ Some Boolean) × ((ty : ℕ) × HasType k i 0 ty × (HasType k i 1 ty × IsBufferPointer (form_of k.types ty)))

-- ---- the same as tests

abbrev pub keeps_pointer_select : Known → Inst → Bool
keeps_pointer_select k i =
    k.pointers && (is_boolean (form_at k i 0) && ((holds i.ty (type_at k i 1) && holds i.ty (type_at k i 2)) && is_buffer_pointer (form_of k.types i.ty)))

abbrev pub keeps_select : Known → Inst → Bool
keeps_select k i = keeps_lanes k i || keeps_pointer_select k i

abbrev pub keeps_ptr_chain : Known → Inst → Bool
keeps_ptr_chain k i = option_map_or (λ (p : Pointed). p.class == 12 && (is_integer_at k i 1 && reaches k i 2 p)) (pointee_at k i 0) false

abbrev pub keeps_ptr_equal : Known → Inst → Bool
keeps_ptr_equal k i =
    is_boolean (form_of k.types i.ty) && option_map_or (λ ty. holds ty (type_at k i 1) && is_buffer_pointer (form_of k.types ty)) (type_at k i 0) false
