-- Reading an instruction by the grammar of its opcode (SPIR-V 1.6 section 2.3).
use Rattle.std.specs.Prelude.{ℕ, ◌==◌, nat_lt, bit_and, Bool, false, List, [], ◌∷◌, length, Option, Some, None, Result, Ok, Err, if◌then◌else◌}
use Rattle.spv_base.specs.declared.causes.Refusal.{Refusal}
use Rattle.spv_base.specs.declared.instructions.Inst.{Inst}
use Rattle.spv_base.specs.declared.instructions.Operand.{Operand}
use Rattle.spv_base.specs.declared.instructions.Operand.TheVariants.{Id, Lit, Text}
use Rattle.spv_base.specs.declared.instructions.RawInst.{RawInst}
use Rattle.spv_ops.specs.declared.grammar.Head.{Head}
use Rattle.spv_ops.specs.declared.grammar.Head.TheVariants as head
use Rattle.spv_ops.specs.declared.grammar.Part.{Part}
use Rattle.spv_ops.specs.declared.grammar.Part.TheVariants as part
use Rattle.spv_ops.specs.declared.grammar.Rest.{Rest}
use Rattle.spv_ops.specs.declared.reading.WrongOperands.{WrongOperands}
use Rattle.spv_ops.specs.Opcodes.{Row}
use Rattle.spv_ops.specs.Grammar.{row_of}
use Rattle.spv_ops.specs.Rests.{is_rest, rest_operands}
use Rattle.spv_ops.specs.Steps.{◌>>=◌, before}
use Rattle.spv_ops.specs.Strings.{text_at}

-- the word at the front, and the words after it
abbrev pub word_at : List ℕ → Result (ℕ × List ℕ) WrongOperands
word_at [] = Err (record {})
word_at (word ∷ words) = Ok (word, words)

-- a mask of memory operands, and the alignment behind it where the mask has Aligned
abbrev pub memory_operands_at : List ℕ → Result (List Operand × List ℕ) WrongOperands
memory_operands_at [] = Err (record {})
memory_operands_at (mask ∷ words) =
    if nat_lt 7 mask then Err (record {})
    else if bit_and mask 2 == 0 then Ok (Lit mask ∷ [], words)
    else (word_at words >>= λ alignment. Ok (Lit mask ∷ Lit alignment.0 ∷ [], alignment.1))

-- the operands of a part, and the words after them
unfoldable pub part_at : Part → List ℕ → Result (List Operand × List ℕ) WrongOperands
part_at part.Id words = word_at words >>= λ id. Ok (Id id.0 ∷ [], id.1)
part_at part.Literal words = word_at words >>= λ literal. Ok (Lit literal.0 ∷ [], literal.1)
part_at part.String words = text_at words >>= λ text. Ok (Text text.0 ∷ [], text.1)
part_at part.MayEnd words = Ok ([], words)
part_at part.MemoryOperands words = memory_operands_at words

-- the instruction ends before this part
abbrev pub ends_at : Part → List ℕ → Bool
ends_at part.MayEnd words = length words == 0
ends_at _ words = false

-- the operands that all of these words are
unfoldable pub operands_of : List Part → Rest → List ℕ → Result (List Operand) WrongOperands
operands_of [] rest words = if is_rest rest words then Ok (rest_operands rest words) else Err (record {})
operands_of (part ∷ parts) rest words =
    if ends_at part words then Ok []
    else (part_at part words >>= λ first. before first.0 (operands_of parts rest first.1))

-- the result type, the result id and the words after them; 0 where there is none
abbrev pub head_at : Head → List ℕ → Result (ℕ × ℕ × List ℕ) WrongOperands
head_at head.Plain words = Ok (0, 0, words)
head_at head.Result words = word_at words >>= λ id. Ok (0, id.0, id.1)
head_at head.TypedResult words = word_at words >>= λ ty. word_at ty.1 >>= λ id. Ok (ty.0, id.0, id.1)

-- the instruction with these words after the first
unfoldable pub inst_by : Row → RawInst → Result Inst WrongOperands
inst_by row raw = do
  head ← head_at row.2 raw.rest
  operands ← operands_of row.3 row.4 head.2
  Ok (record { word = raw.word; op = raw.op; ty = head.0; id = head.1; operands = operands })

-- The refusals: an opcode that is not in the table, and words that no instruction has.
abbrev pub unknown_opcode : ℕ → Refusal
unknown_opcode word = record { code = 6; word = word }

abbrev pub wrong_operands : ℕ → Refusal
wrong_operands word = record { code = 7; word = word }

abbrev pub or_wrong_operands : {X : Type 0} → ℕ → Result X WrongOperands → Result X Refusal
or_wrong_operands word (Ok x) = Ok x
or_wrong_operands word (Err e) = Err (wrong_operands word)

abbrev pub inst_in : Option Row → RawInst → Result Inst Refusal
inst_in None raw = Err (unknown_opcode raw.word)
inst_in (Some row) raw = if nat_lt (length raw.rest) 65535 then or_wrong_operands raw.word (inst_by row raw) else Err (wrong_operands raw.word)

-- the instruction that an opcode and words are, or why there is none
unfoldable pub inst_of : RawInst → Result Inst Refusal
inst_of raw = inst_in (row_of raw.op) raw

-- all instructions, or the refusal of the first that has one
unfoldable pub insts_of : List RawInst → Result (List Inst) Refusal
insts_of [] = Ok []
insts_of (raw ∷ raws) = do
  inst ← inst_of raw
  insts ← insts_of raws
  Ok (inst ∷ insts)
