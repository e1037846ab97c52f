-- The instructions of a module as words, cut by their word counts (SPIR-V 1.6 section 2.3).
use Rattle.std.specs.Prelude.{◌≡◌, ◌⊎◌, ◌<◌, ℕ, zero, suc, ◌+◌, ◌-◌, ◌*◌, ◌/◌, ◌%◌, ◌==◌, nat_lt, ◌||◌, if◌then◌else◌, List, [], ◌∷◌, ◌++◌, length, take, drop, Result, Ok, Err}
use Rattle.std.specs.List.{flat_map, AllByRecursion}
use Rattle.spv_base.specs.declared.causes.Refusal.{Refusal}
use Rattle.spv_base.specs.declared.instructions.RawInst.{RawInst}

-- the word count of an instruction, in the high 16 bits of its first word; it counts that word too
abbrev pub count_of : ℕ → ℕ
count_of first = first / 65536

-- the opcode, in the low 16 bits
abbrev pub opcode_of : ℕ → ℕ
opcode_of first = first % 65536

-- an instruction in front of others, unless these are refused
abbrev pub before : RawInst → Result (List RawInst) Refusal → Result (List RawInst) Refusal
before inst (Ok insts) = Ok (inst ∷ insts)
before inst (Err refusal) = Err refusal

-- The instructions of some words that begin at a place. The first ones, as many as left says, still belong to the instruction before.
-- A word count of 0, or of more words than there are, is refused with code 5, at the place of the instruction.
abbrev pub cut : ℕ → ℕ → List ℕ → Result (List RawInst) Refusal
cut place left [] = Ok []
cut place (suc left) (word ∷ words) = cut (suc place) left words
cut place zero (first ∷ words) =
    let count = count_of first in
    if (count == 0) || nat_lt (suc (length words)) count
    then Err (record { code = 5; word = place })
    else before (record { word = place; op = opcode_of first; rest = take (count - 1) words }) (cut (suc place) (count - 1) words)

-- the instructions of a module's words: they begin at word 5
unfoldable pub raw_of : List ℕ → Result (List RawInst) Refusal
raw_of words = cut 5 0 (drop 5 words)

-- an instruction's words
abbrev pub words_in : RawInst → List ℕ
words_in inst = (65536 * suc (length inst.rest) + inst.op) ∷ inst.rest

-- each instruction stands where the one before ends, and its opcode and word count have at most 16 bits
abbrev pub StandFrom : ℕ → List RawInst → Type 0
StandFrom place [] = Unit {0}
StandFrom place (inst ∷ insts) = (inst.word ≡ place) × (inst.op < 65536) × (length inst.rest < 65535) × StandFrom (place + suc (length inst.rest)) insts

-- each instruction's word is below those of the instructions after it
abbrev pub Ascend : List RawInst → Type 0
Ascend [] = Unit {0}
Ascend (inst ∷ insts) = AllByRecursion (λ later. inst.word < later.word) insts × Ascend insts

-- the instructions, joined, are these words, of which the first stands at a place
pub record AreCutFrom (place : ℕ) (words : List ℕ) (insts : List RawInst) : Type 0 where
  pub joined : flat_map words_in insts ≡ words
  pub stand : StandFrom place insts
  pub ascend : Ascend insts

-- behind whole instructions, the refused one has a word count of 0 or of more words than are left
pub record BreaksOff (place : ℕ) (words : List ℕ) (refusal : Refusal) : Type 0 where
  pub insts : List RawInst
  pub first : ℕ
  pub behind : List ℕ
  pub joined : flat_map words_in insts ++ first ∷ behind ≡ words
  pub stand : StandFrom place insts
  pub count : (count_of first ≡ 0) ⊎ (suc (length behind) < count_of first)
  pub word : refusal.word ≡ place + length (flat_map words_in insts)
  pub code : refusal.code ≡ 5
