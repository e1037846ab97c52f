-- The listing of instructions: one line each, by the grammar of its opcode.
use Rattle.std.specs.Prelude.{ℕ, List, [], ◌∷◌, ◌++◌, map, codes}
use Rattle.std.specs.List.{flat_map}
use Rattle.std.specs.Option.{option_map, unwrap_or}
use Rattle.spv_base.specs.declared.instructions.Inst.{Inst}
use Rattle.spv_ops.specs.declared.grammar.Head.{Head}
use Rattle.spv_ops.specs.declared.grammar.Head.TheVariants as head
use Rattle.spv_ops.specs.Encoding.{head_of}
use Rattle.spv_ops.specs.Grammar.{row_of}
use Rattle.spv_text.specs.declared.lines.Part.{Part}
use Rattle.spv_text.specs.declared.lines.Part.TheVariants as part
use Rattle.spv_text.specs.declared.lines.Line.{Line}
use Rattle.spv_text.specs.Spelling.{line_text}

-- the name of an opcode, with Op before it
abbrev pub name_of : ℕ → List ℕ
name_of op = codes "Op" ++ unwrap_or (option_map (λ row. row.1) (row_of op)) []

-- the result type exactly where the grammar has one, and the result id exactly where it has one
abbrev pub head_parts : Head → ℕ → ℕ → List Part
head_parts head.Plain ty id = []
head_parts head.Result ty id = part.ResultId id ∷ []
head_parts head.TypedResult ty id = part.ResultType ty ∷ part.ResultId id ∷ []

abbrev pub parts_of : Inst → List Part
parts_of inst = head_parts (head_of (row_of inst.op)) inst.ty inst.id ++ map part.Operand inst.operands

-- the line of an instruction
abbrev pub line_of : Inst → Line
line_of inst = record { word = inst.word; name = name_of inst.op; parts = parts_of inst }

unfoldable pub listing : List Inst → List ℕ
listing insts = flat_map (λ inst. line_text (line_of inst)) insts
