-- The rules of decorations and of the blocks that variables point to (SPIR-V 1.6 sections 2.16.2 and 3.20, and this
-- project's profile).
use Rattle.std.specs.Prelude.{◌≡◌, ℕ, ◌==◌, ◌&&◌, ◌||◌, not, if◌then◌else◌, Bool, true, false, List, [], ◌∷◌, ◌++◌, Option, Some, None, Result}
use Rattle.std.specs.List.{list_any}
use Rattle.std.specs.Option.{is_some, option_and_then, option_map_or}
use Rattle.spv_base.specs.declared.instructions.Inst.{Inst}
use Rattle.spv_base.specs.declared.causes.Refusal.{Refusal}
use Rattle.spv_base.specs.Options.{holds}
use Rattle.spv_types.specs.declared.forms.Form.{Form}
use Rattle.spv_types.specs.declared.forms.Form.TheVariants.{Pointer}
use Rattle.spv_types.specs.Types.{Types, form_of}
use Rattle.spv_index.specs.Definitions.{decoration, defining}
use Rattle.spv_index.specs.Operands.{id_operand, literal_operand}
use Rattle.spv_types.specs.Build.{unless_refused}
use Rattle.spv_types.specs.Layout.{is_laid}
use Rattle.spv_types.specs.Rules.{is_block}

-- the code of the rules of layout
abbrev pub layout_code : ℕ
layout_code = 13

-- the storage classes Uniform and StorageBuffer
abbrev pub is_buffer_class : ℕ → Bool
is_buffer_class class = class == 2 || class == 12

-- and PushConstant
abbrev pub is_block_class : ℕ → Bool
is_block_class class = is_buffer_class class || class == 9

-- an OpVariable of a class whose variables point to blocks
abbrev pub is_block_variable : Inst → Bool
is_block_variable i = i.op == 59 && option_map_or is_block_class (literal_operand i 0) false

-- a buffer variable with a DescriptorSet and a Binding
abbrev pub is_at : List Inst → ℕ → ℕ → Inst → Bool
is_at all set binding i = (i.op == 59 && option_map_or is_buffer_class (literal_operand i 0) false) && (holds set (decoration all i.id 34) && holds binding (decoration all i.id 33))

-- one of some instructions is a buffer variable with that descriptor set and binding
unfoldable pub is_taken : List Inst → List Inst → ℕ → ℕ → Bool
is_taken all before set binding = list_any (is_at all set binding) before

-- a set has the places of the buffer variables among some instructions
abbrev pub ArePlaces : List Inst → List Inst → (ℕ → ℕ → Bool) → Type 0
ArePlaces all before places = (set binding : ℕ) → places set binding ≡ is_taken all before set binding

-- a buffer variable has a descriptor set and a binding, which no variable before it shares
abbrev pub keeps_pair : List Inst → List Inst → Option ℕ → Option ℕ → Bool
keeps_pair all before None binding = false
keeps_pair all before (Some set) None = false
keeps_pair all before (Some set) (Some binding) = not (is_taken all before set binding)

-- a pointer type whose target is a Block struct that isn't laid out
abbrev pub points_to_unlaid : Types → Option Form → Bool
points_to_unlaid ts (Some (Pointer class target)) = is_block (form_of ts target) && not (is_laid ts target)
points_to_unlaid ts _ = false

-- The block that a variable of a block class points to is laid out, and a buffer has a place of its own. A variable inside a function may point
-- to no block: the rules of bodies refuse it.
abbrev pub keeps_block : List Inst → Types → List Inst → Inst → Bool
keeps_block all ts before i = not (points_to_unlaid ts (form_of ts i.ty)) && (holds 9 (literal_operand i 0) || keeps_pair all before (decoration all i.id 34) (decoration all i.id 33))

-- the decoration BufferBlock stands on no id that is defined
abbrev pub keeps_decoration : List Inst → Inst → Option ℕ → Bool
keeps_decoration all i kind = not (holds 3 kind && is_some (option_and_then (defining all) (id_operand i 0)))

-- an instruction keeps the rules of layout, after those before it: OpDecorate, OpMemberDecorate and OpVariable have some
unfoldable pub keeps_layout : List Inst → Types → List Inst → Inst → Bool
keeps_layout all ts before i =
    if i.op == 71 then keeps_decoration all i (literal_operand i 1)
    else (if i.op == 72 then keeps_decoration all i (literal_operand i 2)
    else (if is_block_variable i then keeps_block all ts before i
    else true))

abbrev pub breach : Inst → Refusal
breach i = record { code = layout_code; word = i.word }

-- the refusals of some instructions, each after those before it
unfoldable pub module_breaches : List Inst → Types → List Inst → List Inst → List Refusal
module_breaches all ts before [] = []
module_breaches all ts before (i ∷ is) = (if keeps_layout all ts before i then [] else breach i ∷ []) ++ module_breaches all ts (before ++ i ∷ []) is

abbrev pub nothing : Unit {0}
nothing = tt

-- nothing, where all blocks of a module are laid out, or the first breach
unfoldable pub layout_of : Types → List Inst → Result (Unit {0}) Refusal
layout_of ts insts = unless_refused nothing (module_breaches insts ts [] insts)
