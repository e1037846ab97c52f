-- The instructions of the extended set NonSemantic.Shader.DebugInfo.100, by their numbers in it.
use Rattle.std.specs.Prelude.{ℕ, ◌==◌, ◌&&◌, Bool, false, if◌then◌else◌, List, codes, Option, None}
use Rattle.std.specs.Option.{option_and_then, option_map_or}
use Rattle.std.specs.Str.{bytes_eq}
use Rattle.spv_base.specs.declared.instructions.Inst.{Inst}
use Rattle.spv_index.specs.Definitions.{defining}
use Rattle.spv_index.specs.Operands.{id_operand, literal_operand, text_operand}

-- OpExtInstImport (11) of the set
abbrev pub is_set : Inst → Bool
is_set i = i.op == 11 && option_map_or (λ name. bytes_eq name (codes "NonSemantic.Shader.DebugInfo.100")) (text_operand i 0) false

-- the set that an instruction names is this one
abbrev pub names_set : List Inst → Inst → Bool
names_set insts i = option_map_or is_set (option_and_then (defining insts) (id_operand i 0)) false

-- the number in the set of an OpExtInst (12) of the set: Set, Instruction, operands
unfoldable pub set_number : List Inst → Inst → Option ℕ
set_number insts i = if i.op == 12 && names_set insts i then literal_operand i 1 else None
