-- The rules of atomics and barriers (SPIR-V 1.6 sections 3.42.18 and 3.42.20, and this project's profile: an atomic is on one
-- integer in StorageBuffer or Workgroup, scopes and semantics are constants, and a barrier's Execution is Workgroup).
use Rattle.std.specs.Prelude.{◌≡◌, ◌⊎◌, ℕ, ◌==◌, ◌&&◌, ◌||◌, Bool, false, Option, Some}
use Rattle.std.specs.Option.{option_and_then, option_map_or}
use Rattle.spv_base.specs.Cell.{defined_number}
use Rattle.spv_base.specs.declared.instructions.Inst.{Inst}
use Rattle.spv_base.specs.Options.{holds}
use Rattle.spv_types.specs.Types.{form_of}
use Rattle.spv_types.specs.declared.queries.Pointed.{Pointed}
use Rattle.spv_types.specs.Queries.{is_integer}
use Rattle.spv_consts.specs.Table.{scalar_of}
use Rattle.spv_index.specs.Operands.{id_operand}
use Rattle.spv_bodies.specs.Context.{HasType, IsConstantAt, IsInteger, Known, PointsTo, form_at, is_constant_at, is_integer_at, pointee_at, type_at}

-- a scalar integer in StorageBuffer 12 or Workgroup 4
abbrev pub IsShared : Known → Pointed → Type 0
IsShared k p = ((p.class ≡ 12) ⊎ (p.class ≡ 4)) × IsInteger (form_of k.types p.target)

-- a scope and semantics, behind the pointer
abbrev pub IsOrdered : Known → Inst → Type 0
IsOrdered k i = IsConstantAt k i 1 × IsConstantAt k i 2

-- AtomicLoad 227, AtomicIIncrement 232 and AtomicIDecrement 233 (pointer, scope, semantics)
abbrev pub KeepsAtomicRead : Known → Inst → Type 0
KeepsAtomicRead k i = (p : Pointed) × PointsTo k i 0 p × (IsShared k p × ((p.target ≡ i.ty) × IsOrdered k i))

-- AtomicStore 228 (pointer, scope, semantics, value)
abbrev pub KeepsAtomicStore : Known → Inst → Type 0
KeepsAtomicStore k i = (p : Pointed) × PointsTo k i 0 p × (IsShared k p × (HasType k i 3 p.target × IsOrdered k i))

-- AtomicExchange 229, and AtomicIAdd 234 to AtomicXor 242 (pointer, scope, semantics, value)
abbrev pub KeepsAtomicUpdate : Known → Inst → Type 0
KeepsAtomicUpdate k i = (p : Pointed) × PointsTo k i 0 p × (IsShared k p × ((p.target ≡ i.ty) × (HasType k i 3 p.target × IsOrdered k i)))

-- AtomicCompareExchange 230 (pointer, scope, semantics where equal, semantics where unequal, value, comparator)
abbrev pub KeepsAtomicCompare : Known → Inst → Type 0
KeepsAtomicCompare k i =
    (p : Pointed) × PointsTo k i 0 p
    × (IsShared k p × ((p.target ≡ i.ty) × ((HasType k i 4 p.target × HasType k i 5 p.target) × (IsOrdered k i × IsConstantAt k i 3))))

-- the number of the constant with an id
abbrev pub number_by : Known → ℕ → Option ℕ
number_by k id = option_and_then defined_number (scalar_of k.consts id)

-- the number of the constant at a place among the operands
abbrev pub number_at : Known → Inst → ℕ → Option ℕ
number_at k i n = option_and_then (number_by k) (id_operand i n)

-- ControlBarrier 224 (execution, memory, semantics): the execution scope is the integer constant 2, Workgroup
abbrev pub KeepsControlBarrier : Known → Inst → Type 0
KeepsControlBarrier k i = (IsInteger (form_at k i 0) × (number_at k i 0 ≡ Some 2)) × IsOrdered k i

-- MemoryBarrier 225 (memory, semantics)
abbrev pub KeepsMemoryBarrier : Known → Inst → Type 0
KeepsMemoryBarrier k i = IsConstantAt k i 0 × IsConstantAt k i 1

-- ---- the same as tests

abbrev pub is_shared : Known → Pointed → Bool
is_shared k p = (p.class == 12 || p.class == 4) && is_integer (form_of k.types p.target)

abbrev pub is_ordered : Known → Inst → Bool
is_ordered k i = is_constant_at k i 1 && is_constant_at k i 2

-- the pointer leads to an integer for atomics, and a test of where it leads holds
abbrev pub on_shared : Known → Inst → (Pointed → Bool) → Bool
on_shared k i test = option_map_or (λ (p : Pointed). is_shared k p && test p) (pointee_at k i 0) false

abbrev pub keeps_atomic_read : Known → Inst → Bool
keeps_atomic_read k i = on_shared k i (λ p. p.target == i.ty && is_ordered k i)

abbrev pub keeps_atomic_store : Known → Inst → Bool
keeps_atomic_store k i = on_shared k i (λ p. holds p.target (type_at k i 3) && is_ordered k i)

abbrev pub keeps_atomic_update : Known → Inst → Bool
keeps_atomic_update k i = on_shared k i (λ p. p.target == i.ty && (holds p.target (type_at k i 3) && is_ordered k i))

abbrev pub keeps_atomic_compare : Known → Inst → Bool
keeps_atomic_compare k i =
    on_shared k i (λ p. p.target == i.ty && ((holds p.target (type_at k i 4) && holds p.target (type_at k i 5)) && (is_ordered k i && is_constant_at k i 3)))

abbrev pub keeps_control_barrier : Known → Inst → Bool
keeps_control_barrier k i = (is_integer_at k i 0 && holds 2 (number_at k i 0)) && is_ordered k i

abbrev pub keeps_memory_barrier : Known → Inst → Bool
keeps_memory_barrier k i = is_constant_at k i 0 && is_constant_at k i 1
