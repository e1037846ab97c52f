-- Which texts are listings, and why a text is none: its lowest line that is wrong, and what is wrong with it.
use Rattle.std.specs.Prelude.{◌≡◌, ◌≢◌, ℕ, ◌+◌, ◌<◌, ◌⊎◌, IsSome, List, [], ◌∷◌, ◌++◌, length, Result, Ok, Err}
use Rattle.std.specs.List.{AllByRecursion}
use Rattle.spv_base.specs.declared.causes.Fail.{Fail}
use Rattle.spv_base.specs.declared.causes.Fail.TheVariants.{Refused, NoMemory}
use Rattle.spv_base.specs.declared.causes.Refusal.{Refusal}
use Rattle.spv_base.specs.declared.instructions.Inst.{Inst}
use Rattle.spv_ops.specs.Encoding.{encoding, head_of, HasHead, IsFormed, IsInst}
use Rattle.spv_ops.specs.Grammar.{row_of}
use Rattle.spv_text.specs.declared.lines.Line.{Line}
use Rattle.spv_text.specs.declared.lines.Wrong.{Wrong}
use Rattle.spv_text.specs.declared.lines.Wrong.TheVariants.{NoLine, UnknownName, WrongOperands, Misplaced}
use Rattle.spv_text.specs.Spelling.{line_text}
use Rattle.spv_text.specs.Lines.{Any, IsLine, IsNumber, IsOperand, Lacks, Stands}
use Rattle.spv_text.specs.Listing.{line_of, listing, name_of}

-- ---- modules

-- the first word behind these instructions, which begin at this word
abbrev pub word_behind : ℕ → List Inst → ℕ
word_behind word [] = word
word_behind word (inst ∷ insts) = word_behind (word + length (encoding inst)) insts

-- numbers of 32 bits and strings of bytes, as all are that the program has
abbrev pub HasRange : Inst → Type 0
HasRange inst = IsNumber inst.word × IsNumber inst.ty × IsNumber inst.id × AllByRecursion IsOperand inst.operands

-- an instruction that stands at this word
abbrev pub StandsAt : ℕ → Inst → Type 0
StandsAt word inst = IsInst inst × (inst.word ≡ word) × HasRange inst

-- the same, by its line
abbrev pub HasLineAt : ℕ → Inst → Type 0
HasLineAt word inst = IsInst inst × (inst.word ≡ word) × IsLine (line_of inst)

-- the instructions of a module: the first stands at this word, each other behind the words of the one before
abbrev pub AreInsts : ℕ → List Inst → Type 0
AreInsts word [] = Unit {0}
AreInsts word (inst ∷ insts) = StandsAt word inst × AreInsts (word + length (encoding inst)) insts

-- an instruction whose opcode is in the table, and whose result type and id are 0 where the grammar has none
pub record HasPlace (inst : Inst) : Type 0 where
  pub opcode : IsSome (row_of inst.op)
  pub head : HasHead (head_of (row_of inst.op)) inst.ty inst.id

-- ---- what is wrong with a line

-- an opcode has this name
abbrev pub IsOpcode : ℕ → List ℕ → Type 0
IsOpcode op name = IsSome (row_of op) × (name ≡ name_of op)

-- what is wrong with a line, where the next instruction is to stand at this word
abbrev pub IsWrongLine : Wrong → ℕ → Line → Type 0
IsWrongLine NoLine word line = ⊥
IsWrongLine UnknownName word line = (op : ℕ) → IsOpcode op line.name → ⊥
-- no instruction of an opcode's grammar has the line
IsWrongLine WrongOperands word line = ((op : ℕ) × IsOpcode op line.name) × ((inst : Inst) → IsFormed inst → line ≢ line_of inst)
-- it has more than 65,535 words, or stands at another word
IsWrongLine Misplaced word line = (inst : Inst) × IsFormed inst × (line ≡ line_of inst) × ((65535 < length (encoding inst)) ⊎ (line.word ≢ word))

-- What is wrong with the first line of a text: no line stands there, as it has no LF or isn't made of a word, a colon, a name and
-- parts; or one does, which is wrong.
abbrev pub IsWrong : Wrong → ℕ → List ℕ → Type 0
IsWrong NoLine word text = Lacks line_text IsLine Any text
IsWrong UnknownName word text = (line : Line) × (rest : List ℕ) × Stands line_text IsLine Any text line rest × IsWrongLine UnknownName word line
IsWrong WrongOperands word text = (line : Line) × (rest : List ℕ) × Stands line_text IsLine Any text line rest × IsWrongLine WrongOperands word line
IsWrong Misplaced word text = (line : Line) × (rest : List ℕ) × Stands line_text IsLine Any text line rest × IsWrongLine Misplaced word line

-- the codes of refusals
abbrev pub code_of : Wrong → ℕ
code_of NoLine = 1
code_of UnknownName = 2
code_of WrongOperands = 3
code_of Misplaced = 4

-- ---- what a text is

-- the text begins with the lines of these instructions, and then a line is wrong; there is one, so the text goes on
pub record StopsAt (text : List ℕ) (refusal : Refusal) : Type 0 where
  pub wrong : Wrong
  pub insts : List Inst
  pub rest : List ℕ
  pub whole : text ≡ listing insts ++ rest
  pub stand : AreInsts 5 insts
  pub more : 0 < length rest
  pub cause : IsWrong wrong (word_behind 5 insts) rest
  pub code : refusal.code ≡ code_of wrong
  pub line : refusal.word ≡ length insts + 1

-- A text is read as the instructions of which it is the listing, from word 5 on; else it is refused at its lowest wrong line.
abbrev pub IsRead : List ℕ → Result (List Inst) Refusal → Type 0
IsRead text (Ok insts) = AreInsts 5 insts × (text ≡ listing insts)
IsRead text (Err refusal) = StopsAt text refusal

-- what was answered, where memory may run out
abbrev pub IsAnswer : List ℕ → Result (List Inst) (Fail Refusal) → Type 0
IsAnswer text (Ok insts) = IsRead text (Ok insts)
IsAnswer text (Err (Refused refusal)) = IsRead text (Err refusal)
IsAnswer text (Err NoMemory) = Unit {0}
