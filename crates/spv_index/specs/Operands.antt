-- The operands of an instruction behind its result type and its result, by their numbers from 0 on (SPIR-V 1.6 section 2.2.1).
use Rattle.std.specs.Prelude.{ℕ, List, Option, Some, None, slice_get}
use Rattle.std.specs.List.{flat_map}
use Rattle.std.specs.Option.{option_and_then, option_to_list}
use Rattle.spv_base.specs.declared.instructions.Inst.{Inst}
use Rattle.spv_base.specs.declared.instructions.Operand.{Operand}
use Rattle.spv_base.specs.declared.instructions.Operand.TheVariants.{Id, Lit, Text}

abbrev pub id_in : Operand → Option ℕ
id_in (Id id) = Some id
id_in (Lit word) = None
id_in (Text bytes) = None

abbrev pub literal_in : Operand → Option ℕ
literal_in (Id id) = None
literal_in (Lit word) = Some word
literal_in (Text bytes) = None

abbrev pub text_in : Operand → Option (List ℕ)
text_in (Id id) = None
text_in (Lit word) = None
text_in (Text bytes) = Some bytes

-- the ids among some operands, in their order
abbrev pub ids_in : List Operand → List ℕ
ids_in operands = flat_map (λ o. option_to_list (id_in o)) operands

-- the operand with a number, where it is an id
abbrev pub id_operand : Inst → ℕ → Option ℕ
id_operand i n = option_and_then id_in (slice_get i.operands n)

-- the operand with a number, where it is a literal word
abbrev pub literal_operand : Inst → ℕ → Option ℕ
literal_operand i n = option_and_then literal_in (slice_get i.operands n)

-- the bytes of the operand with a number, where it is a string
abbrev pub text_operand : Inst → ℕ → Option (List ℕ)
text_operand i n = option_and_then text_in (slice_get i.operands n)
