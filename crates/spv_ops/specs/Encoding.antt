-- What an instruction is, and the words that it has (SPIR-V 1.6 section 2.3), apart from how they are read or written.
use Rattle.std.specs.Prelude.{◌≡◌, ◌≢◌, ℕ, ◌+◌, ◌*◌, ◌<◌, ◌≤◌, ◌⊎◌, IsTrue, IsSome, bit_and, List, [], ◌∷◌, ◌++◌, length, Option, Some, None}
use Rattle.std.specs.List.{AllByRecursion}
use Rattle.spv_base.specs.declared.causes.Fail.{Fail}
use Rattle.spv_base.specs.declared.causes.Fail.TheVariants.{Refused, NoMemory}
use Rattle.spv_base.specs.declared.causes.Refusal.{Refusal}
use Rattle.spv_base.specs.declared.instructions.Inst.{Inst}
use Rattle.spv_base.specs.declared.instructions.Operand.{Operand}
use Rattle.spv_base.specs.declared.instructions.Operand.TheVariants.{Id, Lit, Text}
use Rattle.spv_base.specs.declared.instructions.RawInst.{RawInst}
use Rattle.spv_ops.specs.declared.grammar.Head.{Head}
use Rattle.spv_ops.specs.declared.grammar.Head.TheVariants as head
use Rattle.spv_ops.specs.declared.grammar.Part.{Part}
use Rattle.spv_ops.specs.declared.grammar.Part.TheVariants as part
use Rattle.spv_ops.specs.declared.grammar.Rest.{Rest}
use Rattle.spv_ops.specs.Opcodes.{Row}
use Rattle.spv_ops.specs.Grammar.{row_of}
use Rattle.spv_ops.specs.Reading.{unknown_opcode, wrong_operands}
use Rattle.spv_ops.specs.Rests.{is_rest, rest_operands}
use Rattle.spv_ops.specs.Strings.{words_of_text}

-- ---- words

-- the words of an operand; they do not depend on the grammar
abbrev pub words_of_operand : Operand → List ℕ
words_of_operand (Id id) = id ∷ []
words_of_operand (Lit literal) = literal ∷ []
words_of_operand (Text bytes) = words_of_text bytes

abbrev pub words_of_operands : List Operand → List ℕ
words_of_operands [] = []
words_of_operands (operand ∷ operands) = words_of_operand operand ++ words_of_operands operands

-- the result type and the result id, where there are such
abbrev pub words_of_head : Head → ℕ → ℕ → List ℕ
words_of_head head.Plain ty id = []
words_of_head head.Result ty id = id ∷ []
words_of_head head.TypedResult ty id = ty ∷ id ∷ []

-- what stands before the operands, by the opcode's line of the table
abbrev pub head_of : Option Row → Head
head_of None = head.Plain
head_of (Some row) = row.2

abbrev pub words_after_first : Option Row → Inst → List ℕ
words_after_first row inst = words_of_head (head_of row) inst.ty inst.id ++ words_of_operands inst.operands

-- its words after the first, with its opcode and its place
unfoldable pub raw_of : Inst → RawInst
raw_of inst = record { word = inst.word; op = inst.op; rest = words_after_first (row_of inst.op) inst }

-- all words: the first has the number of words in its high half and the opcode in its low half
abbrev pub words_of_raw : RawInst → List ℕ
words_of_raw raw = ((length raw.rest + 1) * 65536 + raw.op) ∷ raw.rest

-- the words of an instruction
abbrev pub encoding : Inst → List ℕ
encoding inst = words_of_raw (raw_of inst)

-- ---- grammars

-- these are the operands of a part
abbrev pub IsPart : Part → List Operand → Type 0
IsPart part.Id operands = (id : ℕ) × (operands ≡ Id id ∷ [])
IsPart part.Literal operands = (literal : ℕ) × (operands ≡ Lit literal ∷ [])
IsPart part.String operands = (bytes : List ℕ) × (operands ≡ Text bytes ∷ [])
IsPart part.MayEnd operands = operands ≡ []
-- a mask, and an alignment behind it exactly where the mask has Aligned
IsPart part.MemoryOperands operands = (mask : ℕ) × (mask ≤ 7) × (((bit_and mask 2 ≡ 0) × (operands ≡ Lit mask ∷ []))
    ⊎ ((bit_and mask 2 ≢ 0) × (alignment : ℕ) × (operands ≡ Lit mask ∷ Lit alignment ∷ [])))

-- the instruction has no operands from this part on
abbrev pub EndsAt : Part → List Operand → Type 0
EndsAt part.MayEnd operands = operands ≡ []
EndsAt _ operands = ⊥

-- these operands follow the grammar
abbrev pub FollowsGrammar : List Part → Rest → List Operand → Type 0
FollowsGrammar [] rest operands = (words : List ℕ) × IsTrue (is_rest rest words) × (operands ≡ rest_operands rest words)
FollowsGrammar (part ∷ parts) rest operands = EndsAt part operands
    ⊎ ((first more : List Operand) × IsPart part first × FollowsGrammar parts rest more × (operands ≡ first ++ more))

-- a result type and a result id are 0 where the grammar has none
abbrev pub HasHead : Head → ℕ → ℕ → Type 0
HasHead head.Plain ty id = (ty ≡ 0) × (id ≡ 0)
HasHead head.Result ty id = ty ≡ 0
HasHead head.TypedResult ty id = Unit {0}

-- a text has no zero byte
abbrev pub HasNoZero : Operand → Type 0
HasNoZero (Id id) = Unit {0}
HasNoZero (Lit literal) = Unit {0}
HasNoZero (Text bytes) = AllByRecursion (λ byte. 0 < byte) bytes

-- a text is of bytes, as every text of the program is
abbrev pub HasBytes : Operand → Type 0
HasBytes (Id id) = Unit {0}
HasBytes (Lit literal) = Unit {0}
HasBytes (Text bytes) = AllByRecursion (λ byte. byte < 256) bytes

-- an instruction of its opcode's grammar, however many words it would have
pub record IsFormed (inst : Inst) : Type 0 where
  pub row : Row
  pub opcode : row_of inst.op ≡ Some row
  pub head : HasHead row.2 inst.ty inst.id
  pub operands : FollowsGrammar row.3 row.4 inst.operands
  pub texts : AllByRecursion HasNoZero inst.operands

-- an instruction that has words
pub record IsInst (inst : Inst) : Type 0 where
  pub row : Row
  pub opcode : row_of inst.op ≡ Some row
  pub head : HasHead row.2 inst.ty inst.id
  pub operands : FollowsGrammar row.3 row.4 inst.operands
  pub texts : AllByRecursion HasNoZero inst.operands
  pub count : length (encoding inst) ≤ 65535

-- no instruction has these words
abbrev pub IsNoInst : RawInst → Type 0
IsNoInst raw = (inst : Inst) → IsInst inst → AllByRecursion HasBytes inst.operands → raw_of inst ≡ raw → ⊥

-- why words are refused: the opcode is not in the table, or it is and no instruction has them
abbrev pub IsRefused : RawInst → Fail Refusal → Type 0
IsRefused raw (Refused refusal) = ((row_of raw.op ≡ None) × (refusal ≡ unknown_opcode raw.word))
    ⊎ (IsSome (row_of raw.op) × IsNoInst raw × (refusal ≡ wrong_operands raw.word))
IsRefused raw NoMemory = Unit {0}
