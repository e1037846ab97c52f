-- The value that an instruction computes, by the values of its operands (SPIR-V 1.6 sections 3.42.11 to 3.42.15). The operands are
-- numbered from 0 behind the result; where one that is read has no value, there is no result.
use Rattle.std.specs.Prelude.{ℕ, ◌-◌, ◌==◌, if◌then◌else◌, List, [], ◌∷◌, drop, length, map, unwrap_or, Option, Some}
use Rattle.std.specs.List.{range_with_len}
use Rattle.std.specs.Option.{option_map, option_and_then, option_map_or}
use Rattle.spv_base.specs.Parts.{part_at, with_part}
use Rattle.spv_base.specs.declared.instructions.Inst.{Inst}
use Rattle.spv_base.specs.declared.instructions.Operand.{Operand}
use Rattle.spv_base.specs.declared.values.Value.{Value, List as Many}
use Rattle.spv_alu.specs.declared.field_op.FieldOp.{FieldOp}
use Rattle.spv_alu.specs.declared.field_op.FieldOp.TheVariants.{BitFieldInsert, BitFieldSExtract, BitFieldUExtract}
use Rattle.spv_alu.specs.declared.glsl_op.GlslOp.{GlslOp}
use Rattle.spv_index.specs.Operands.{literal_in}
use Rattle.spv_types.specs.declared.forms.Form.{Form}
use Rattle.spv_types.specs.declared.forms.Form.TheVariants.{Vector}
use Rattle.spv_types.specs.Types.{Types, form_of}
use Rattle.spv_typing.specs.Lanes.{lanes_of, width_of}
use Rattle.spv_typing.specs.declared.lanes.Lanes.{Lanes}
use Rattle.spv_mem.specs.Blanks.{blank_of}
use Rattle.spv_effects.specs.BinaryOps.{binary_value}
use Rattle.spv_effects.specs.Bitcasts.{bitcast_value}
use Rattle.spv_effects.specs.Composites.{joined_value}
use Rattle.spv_effects.specs.ExtendedOps.{extended_value}
use Rattle.spv_effects.specs.Fields.{field_value}
use Rattle.spv_effects.specs.GlslOps.{glsl_value}
use Rattle.spv_effects.specs.Selects.{select_value}
use Rattle.spv_effects.specs.Truths.{truth_value}
use Rattle.spv_effects.specs.UnaryOps.{unary_value}
use Rattle.spv_effects.specs.Vectors.{extract_dynamic_value, insert_dynamic_value, shuffle_value}
use Rattle.spv_valid.specs.Acceptance.{Accepted}
use Rattle.spv_results.specs.Computations.{computation_of}
use Rattle.spv_results.specs.declared.computations.Computation.{Computation}
use Rattle.spv_results.specs.declared.computations.Computation.TheVariants.{Undef, Unary, Bitcast, Truth, Binary, Field, Extended, Select, Glsl, ExtractDynamic, InsertDynamic, Shuffle, Construct, Extract, Insert, Copy}

-- ---- the lanes of a type: how many, and their width; a Boolean has width 1

abbrev pub lane_width : Types → ℕ → ℕ
lane_width ts ty = option_map_or (λ (l : Lanes). width_of l.element) (lanes_of ts ty) 0

abbrev pub lane_count : Types → ℕ → ℕ
lane_count ts ty = option_map_or (λ (l : Lanes). l.count) (lanes_of ts ty) 0

-- ---- operands

-- the value of each operand that has one, by its number
abbrev pub Operands : Type 0
Operands = ℕ → Option Value

abbrev pub of_one : (Value → Value) → Option Value → Option Value
of_one f a = option_map f a

abbrev pub of_two : (Value → Value → Value) → Option Value → Option Value → Option Value
of_two f a b = option_and_then (λ x. option_map (f x) b) a

abbrev pub of_three : (Value → Value → Value → Value) → Option Value → Option Value → Option Value → Option Value
of_three f a b c = option_and_then (λ x. of_two (f x) b c) a

abbrev pub of_four : (Value → Value → Value → Value → Value) → Option Value → Option Value → Option Value → Option Value → Option Value
of_four f a b c d = option_and_then (λ x. of_three (f x) b c d) a

-- the values of some operands, where all have one
abbrev pub all_of : Operands → List ℕ → Option (List Value)
all_of v [] = Some []
all_of v (n ∷ ns) = option_and_then (λ x. option_map (λ xs. x ∷ xs) (all_of v ns)) (v n)

-- literals, as a path or as numbers of components
abbrev pub numbers : List Operand → List ℕ
numbers os = map (λ o. unwrap_or (literal_in o) 0) os

-- ---- by instruction

-- BitFieldInsert (base, insert, offset, count); the extractions (base, offset, count) insert nothing
abbrev pub field_result : FieldOp → Operands → Option Value
field_result BitFieldInsert v = of_four (field_value BitFieldInsert) (v 0) (v 1) (v 2) (v 3)
field_result BitFieldSExtract v = of_three (λ base. field_value BitFieldSExtract base base) (v 0) (v 1) (v 2)
field_result BitFieldUExtract v = of_three (λ base. field_value BitFieldUExtract base base) (v 0) (v 1) (v 2)

-- An instruction of GLSL.std.450 stands behind its set and its number, with one to three operands; it reads no more than it has.
abbrev pub glsl_result : GlslOp → ℕ → Operands → Option Value
glsl_result op count v =
    if count == 1 then of_one (λ a. glsl_value op a a a) (v 2)
    else if count == 2 then of_two (λ a b. glsl_value op a b b) (v 2) (v 3)
    else of_three (glsl_value op) (v 2) (v 3) (v 4)

-- A vector is made of the components of its constituents, and an array or a struct of these as its parts.
abbrev pub constructed : Option Form → List Value → Value
constructed (Some (Vector component count)) vs = joined_value vs
constructed _ vs = Many vs

abbrev pub result_by : Accepted → Inst → Operands → Computation → Option Value
result_by a i v Undef = Some (blank_of a.types 0 i.ty)
result_by a i v (Unary op) = of_one (unary_value op (lane_width a.types i.ty)) (v 0)
result_by a i v Bitcast = of_one (bitcast_value (lane_count a.types i.ty) (lane_width a.types i.ty)) (v 0)
result_by a i v (Truth op) = of_one (truth_value op) (v 0)
result_by a i v (Binary op) = of_two (binary_value op) (v 0) (v 1)
result_by a i v (Field op) = field_result op v
result_by a i v (Extended op) = of_two (extended_value op) (v 0) (v 1)
result_by a i v Select = of_three select_value (v 0) (v 1) (v 2)
result_by a i v (Glsl op) = glsl_result op (length i.operands - 2) v
result_by a i v ExtractDynamic = of_two extract_dynamic_value (v 0) (v 1)
result_by a i v InsertDynamic = of_three insert_dynamic_value (v 0) (v 1) (v 2)
result_by a i v Shuffle = of_two (λ x y. shuffle_value x y (numbers (drop 2 i.operands))) (v 0) (v 1)
result_by a i v Construct = option_map (constructed (form_of a.types i.ty)) (all_of v (range_with_len 0 (length i.operands)))
result_by a i v Extract = option_and_then (λ whole. part_at whole (numbers (drop 1 i.operands))) (v 0)
result_by a i v Insert = of_two (λ object whole. with_part whole (numbers (drop 2 i.operands)) object) (v 0) (v 1)
result_by a i v Copy = v 0

-- the value that an instruction computes, where it computes one and its operands have values
unfoldable pub result_of : Accepted → Inst → Operands → Option Value
result_of a i v = option_and_then (result_by a i v) (computation_of i)
