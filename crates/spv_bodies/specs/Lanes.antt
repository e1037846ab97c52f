-- The rules of lane-wise operations (SPIR-V 1.6 sections 3.42.11 and 3.42.13 to 3.42.15), and of the instructions of an
-- imported set.
use Rattle.std.specs.Prelude.{◌≡◌, ◌⊎◌, ℕ, ◌+◌, ◌-◌, ◌||◌, Bool, true, false, length, Option, Some}
use Rattle.std.specs.Option.{option_map_or}
use Rattle.spv_base.specs.declared.instructions.Inst.{Inst}
use Rattle.spv_index.specs.Classes.{is_debug}
use Rattle.spv_index.specs.Operands.{literal_operand}
use Rattle.spv_typing.specs.declared.rules.Rule.{Rule}
use Rattle.spv_typing.specs.Fitting.{fits}
use Rattle.spv_typing.specs.Glsl.{fits_glsl, glsl_rule}
use Rattle.spv_typing.specs.Laws.{IsTyped}
use Rattle.spv_typing.specs.Rules.{rule_count, rule_of}
use Rattle.spv_bodies.specs.Context.{Known, type_at}

-- the type of each operand after the first ones that has one
abbrev pub types_after : Known → Inst → ℕ → ℕ → Option ℕ
types_after k i from n = type_at k i (from + n)

-- the operands and the result have the types that the opcode's rule asks
abbrev pub KeepsLanes : Known → Inst → Type 0
KeepsLanes k i = (rule : Rule) × (rule_of i.op ≡ Some rule) × IsTyped k.types rule i.ty (types_after k i 0)

-- how many operands an instruction of a set has, after the set and the number
abbrev pub count_of : Inst → ℕ
count_of i = length i.operands - 2

-- ExtInst 12 (set, number, operands): of a set with no meaning at run time, or as an instruction of GLSL.std.450 asks
abbrev pub KeepsExtended : Known → Inst → Type 0
KeepsExtended k i =
    (is_debug k.sets i ≡ true)
    ⊎ ((number : ℕ) × (literal_operand i 1 ≡ Some number)
    × ((rule : Rule) × (glsl_rule number ≡ Some rule) × (rule_count rule ≡ Some (count_of i)) × IsTyped k.types rule i.ty (types_after k i 2)))

-- ---- the same as tests

abbrev pub keeps_lanes : Known → Inst → Bool
keeps_lanes k i = fits k.types i.op i.ty (types_after k i 0)

abbrev pub fits_number : Known → Inst → ℕ → Bool
fits_number k i number = fits_glsl k.types number (count_of i) i.ty (types_after k i 2)

abbrev pub keeps_extended : Known → Inst → Bool
keeps_extended k i = is_debug k.sets i || option_map_or (fits_number k i) (literal_operand i 1) false
