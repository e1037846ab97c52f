-- Whether the types of the operands of an instruction of GLSL.std.450 fit the type of its result ("SPIR-V Extended
-- Instructions for GLSL"): the instructions on integers. This project's profile takes every width.
use Rattle.std.specs.Prelude.{ℕ, ◌&&◌, Bool, false, List, [], ◌∷◌, Option}
use Rattle.std.specs.Option.{option_map_or}
use Rattle.spv_base.specs.Entries.{reads}
use Rattle.spv_base.specs.Options.{holds}
use Rattle.spv_types.specs.Types.{Types}
use Rattle.spv_typing.specs.declared.rules.Rule.{Rule}
use Rattle.spv_typing.specs.declared.rules.Rule.TheVariants.{Integer, Integers, Clamp}
use Rattle.spv_typing.specs.Rules.{rule_count}
use Rattle.spv_typing.specs.Fitting.{fits_rule}

-- SAbs 5, SSign 7, UMin 38, SMin 39, UMax 41, SMax 42, UClamp 44, SClamp 45, FindILsb 73, FindSMsb 74, FindUMsb 75
abbrev pub glsl_rules : List (ℕ × Rule)
glsl_rules =
    (5, Integer) ∷ (7, Integer) ∷ (38, Integers) ∷ (39, Integers) ∷ (41, Integers) ∷ (42, Integers) ∷ (44, Clamp) ∷ (45, Clamp)
    ∷ (73, Integer) ∷ (74, Integer) ∷ (75, Integer) ∷ []

-- the rule of an instruction's number; none where the table has no such number
abbrev pub glsl_rule : ℕ → Option Rule
glsl_rule number = reads number glsl_rules

-- Whether so many operands fit the result of an instruction, where ty gives the type of each operand that has one.
abbrev pub fits_glsl : Types → ℕ → ℕ → ℕ → (ℕ → Option ℕ) → Bool
fits_glsl ts number count result ty = option_map_or (λ rule. holds count (rule_count rule) && fits_rule ts rule result ty) (glsl_rule number) false
