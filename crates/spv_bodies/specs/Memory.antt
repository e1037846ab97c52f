-- The rules of variables, loads and stores in functions (SPIR-V 1.6 sections 3.42.8 and 3.42.1, and this project's profile:
-- a variable's initializer is a constant, and Input, Uniform and PushConstant are not written).
use Rattle.std.specs.Prelude.{◌≡◌, ◌≤◌, ◌⊎◌, ℕ, ◌==◌, ◌&&◌, ◌||◌, not, nat_le, Bool, true, false, length, Option, Some}
use Rattle.std.specs.Option.{option_and_then, option_map_or}
use Rattle.spv_base.specs.declared.instructions.Inst.{Inst}
use Rattle.spv_base.specs.Options.{holds}
use Rattle.spv_types.specs.Rules.{has_runtime, is_runtime, is_sized_data, is_word}
use Rattle.spv_types.specs.Types.{form_of}
use Rattle.spv_types.specs.declared.forms.Form.TheVariants.{Int, Runtime}
use Rattle.spv_types.specs.declared.queries.Pointed.{Pointed}
use Rattle.spv_types.specs.Queries.{member_of, pointee}
use Rattle.spv_index.specs.Operands.{literal_operand}
use Rattle.spv_bodies.specs.Context.{HasType, IsPointerTo, Known, PointsTo, constant_at, pointee_at, type_at}

-- data without a runtime array
abbrev pub IsSized : Known → ℕ → Type 0
IsSized k ty = is_sized_data k.types ty ≡ true

-- not Input 1, Uniform 2 or PushConstant 9
abbrev pub IsWritable : ℕ → Type 0
IsWritable class = (class ≡ 1) ⊎ ((class ≡ 2) ⊎ (class ≡ 9)) → ⊥

-- sized data in a class that functions may write
abbrev pub MayBeStored : Known → Pointed → Type 0
MayBeStored k p = IsWritable p.class × IsSized k p.target

-- the member of a struct that a literal names
abbrev pub member_at : Known → Inst → ℕ → ℕ → Option ℕ
member_at k i n ty = option_and_then (member_of (form_of k.types ty)) (literal_operand i n)

-- Undef 1: of data without a runtime array
abbrev pub KeepsUndef : Known → Inst → Type 0
KeepsUndef k i = IsSized k i.ty

-- an initializer, where there is one, is a constant of the target type
abbrev pub Starts : Known → Inst → ℕ → Type 0
Starts k i target = (length i.operands ≤ 1) ⊎ (constant_at k i 1 ≡ Some target)

-- Variable 59: of class Function 7, and without a runtime array
abbrev pub KeepsVariable : Known → Inst → Type 0
KeepsVariable k i = (p : Pointed) × IsPointerTo (form_of k.types i.ty) p × (((p.class ≡ 7) × (literal_operand i 0 ≡ Some 7)) × ((has_runtime k.types p.target ≡ false) × Starts k i p.target))

-- Load 61 (pointer): sized data of the pointer's target type
abbrev pub KeepsLoad : Known → Inst → Type 0
KeepsLoad k i = (p : Pointed) × PointsTo k i 0 p × ((p.target ≡ i.ty) × IsSized k i.ty)

-- Store 62 (pointer, object): the object has the target type
abbrev pub KeepsStore : Known → Inst → Type 0
KeepsStore k i = (p : Pointed) × PointsTo k i 0 p × (HasType k i 1 p.target × MayBeStored k p)

-- CopyMemory 63 (target, source): two pointers to one type
abbrev pub KeepsCopyMemory : Known → Inst → Type 0
KeepsCopyMemory k i = (p : Pointed) × PointsTo k i 0 p × ((q : Pointed) × PointsTo k i 1 q × ((q.target ≡ p.target) × MayBeStored k p))

-- ArrayLength 68 (structure, member): the member of the pointer's target is a runtime array; the result has 32 bits
abbrev pub KeepsArrayLength : Known → Inst → Type 0
KeepsArrayLength k i =
    ((sign : ℕ) × (form_of k.types i.ty ≡ Some (Int 32 sign)))
    × ((p : Pointed) × PointsTo k i 0 p
    × ((ty : ℕ) × (member_at k i 1 p.target ≡ Some ty) × ((element : ℕ) × (stride : Option ℕ) × (form_of k.types ty ≡ Some (Runtime element stride)))))

-- ---- the same as tests

abbrev pub keeps_undef : Known → Inst → Bool
keeps_undef k i = is_sized_data k.types i.ty

abbrev pub starts : Known → Inst → ℕ → Bool
starts k i target = nat_le (length i.operands) 1 || holds target (constant_at k i 1)

abbrev pub keeps_local : Known → Inst → Pointed → Bool
keeps_local k i p = (p.class == 7 && holds 7 (literal_operand i 0)) && (not (has_runtime k.types p.target) && starts k i p.target)

abbrev pub keeps_variable : Known → Inst → Bool
keeps_variable k i = option_map_or (keeps_local k i) (pointee (form_of k.types i.ty)) false

abbrev pub keeps_load : Known → Inst → Bool
keeps_load k i = option_map_or (λ (p : Pointed). p.target == i.ty && is_sized_data k.types i.ty) (pointee_at k i 0) false

abbrev pub is_writable : ℕ → Bool
is_writable class = not (class == 1 || (class == 2 || class == 9))

abbrev pub may_be_stored : Known → Pointed → Bool
may_be_stored k p = is_writable p.class && is_sized_data k.types p.target

abbrev pub keeps_store : Known → Inst → Bool
keeps_store k i = option_map_or (λ (p : Pointed). holds p.target (type_at k i 1) && may_be_stored k p) (pointee_at k i 0) false

abbrev pub keeps_copy_memory : Known → Inst → Bool
keeps_copy_memory k i =
    option_map_or (λ (p : Pointed). option_map_or (λ (q : Pointed). q.target == p.target && may_be_stored k p) (pointee_at k i 1) false) (pointee_at k i 0) false

abbrev pub keeps_array_length : Known → Inst → Bool
keeps_array_length k i =
    is_word (form_of k.types i.ty)
    && option_map_or (λ (p : Pointed). option_map_or (λ t. is_runtime (form_of k.types t)) (member_at k i 1 p.target) false) (pointee_at k i 0) false
