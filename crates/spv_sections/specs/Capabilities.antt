-- What a module declares that it needs, and whether this project has it (SPIR-V 1.6 sections 3.4, 3.5, 3.31 and 3.42.2 to 3.42.4).
-- Which of them there are is this project's profile.
use Rattle.std.specs.Prelude.{ℕ, Bool, not, List, [], ◌∷◌, ◌==◌, ◌&&◌, ◌||◌, nat_eq, if◌then◌else◌, codes, false, Some, Result}
use Rattle.std.specs.Option.{option_eq, option_map_or}
use Rattle.std.specs.List.{list_any, starts_with, flat_map}
use Rattle.std.specs.Str.{bytes_eq}
use Rattle.spv_base.specs.declared.instructions.Inst.{Inst}
use Rattle.spv_base.specs.declared.causes.Refusal.{Refusal}
use Rattle.spv_base.specs.Options.{holds}
use Rattle.spv_index.specs.Classes.{name_of}
use Rattle.spv_index.specs.Operands.{literal_operand}
use Rattle.spv_types.specs.Build.{unless_refused}
use Rattle.spv_types.specs.InterfaceBlocks.{nothing}

-- the code of the rules of capabilities, extensions, imports and memory models
abbrev pub capability_code : ℕ
capability_code = 11

-- Matrix, Shader, Int64, Int64Atomics, Int16, Int8, StorageBuffer16BitAccess, UniformAndStorageBuffer16BitAccess,
-- VariablePointersStorageBuffer, StorageBuffer8BitAccess, UniformAndStorageBuffer8BitAccess
abbrev pub capabilities : List ℕ
capabilities = 0 ∷ 1 ∷ 11 ∷ 12 ∷ 22 ∷ 39 ∷ 4433 ∷ 4434 ∷ 4441 ∷ 4448 ∷ 4449 ∷ []

abbrev pub extensions : List (List ℕ)
extensions =
    codes "SPV_KHR_non_semantic_info" ∷ codes "SPV_KHR_storage_buffer_storage_class" ∷ codes "SPV_KHR_16bit_storage"
    ∷ codes "SPV_KHR_8bit_storage" ∷ codes "SPV_KHR_variable_pointers" ∷ []

abbrev pub is_capability : ℕ → Bool
is_capability number = list_any (λ known. known == number) capabilities

abbrev pub is_extension : List ℕ → Bool
is_extension name = list_any (λ known. bytes_eq name known) extensions

-- a set of instructions that has a meaning here, or one with no meaning at run time
abbrev pub is_set : List ℕ → Bool
is_set name = bytes_eq name (codes "GLSL.std.450") || starts_with nat_eq name (codes "NonSemantic.")

-- Logical addressing (0), and GLSL450 (1)
abbrev pub is_memory_model : Inst → Bool
is_memory_model inst = option_eq nat_eq (literal_operand inst 0) (Some 0) && option_eq nat_eq (literal_operand inst 1) (Some 1)

-- an OpCapability 17 of VariablePointersStorageBuffer
abbrev pub is_variable_pointers : Inst → Bool
is_variable_pointers inst = (inst.op == 17) && holds 4441 (literal_operand inst 0)

-- a module declares that it computes with pointers into storage buffers
unfoldable pub declares_variable_pointers : List Inst → Bool
declares_variable_pointers insts = list_any is_variable_pointers insts

-- OpPtrAccessChain, OpPtrEqual and OpPtrNotEqual
abbrev pub needs_variable_pointers : ℕ → Bool
needs_variable_pointers op = (op == 67) || ((op == 401) || (op == 402))

-- An instruction asks for nothing that is not here: OpCapability, OpExtension, OpExtInstImport and OpMemoryModel by what they
-- declare, and the operations on pointers only where the module declares these.
abbrev pub is_here : Bool → Inst → Bool
is_here pointers inst =
    if inst.op == 17 then option_map_or is_capability (literal_operand inst 0) false
    else if inst.op == 10 then is_extension (name_of inst)
    else if inst.op == 11 then is_set (name_of inst)
    else if inst.op == 14 then is_memory_model inst
    else pointers || not (needs_variable_pointers inst.op)

abbrev pub capability_breach : Bool → Inst → List Refusal
capability_breach pointers inst = if is_here pointers inst then [] else record { code = capability_code; word = inst.word } ∷ []

abbrev pub capability_breaches : List Inst → List Refusal
capability_breaches insts = flat_map (capability_breach (declares_variable_pointers insts)) insts

-- nothing, where all that a module asks for is here, or the first breach
unfoldable pub capabilities_of : List Inst → Result (Unit {0}) Refusal
capabilities_of insts = unless_refused nothing (capability_breaches insts)
