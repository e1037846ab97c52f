-- Each instruction of the module is one: its words are read as it again.
use Rattle.std.proofs.Common.{◌≡◌, ℕ, ◌<◌, ◌^◌, Bool, true, List, [], ◌∷◌, Result, Ok, refl, ltb}
use Rattle.std.specs.List.{AllByRecursion, list_all}
use Rattle.std.proofs.lemmas.Bool.{and_parts, ltb-true, lt-ltb}
use Rattle.spv_base.specs.declared.causes.Refusal.{Refusal}
use Rattle.spv_base.specs.declared.instructions.Inst.{Inst}
use Rattle.spv_ops.specs.Encoding.{raw_of, IsInst}
use Rattle.spv_ops.specs.Grammar.{row_of}
use Rattle.spv_ops.specs.Opcodes.{table}
use Rattle.spv_ops.specs.Reading.{inst_of, inst_by, operands_of, part_at}
use Rattle.spv_ops.specs.Strings.{text_at, text_len, text_bytes, is_padded}
use Rattle.spv_ops.proofs.Exports.{words_from, inst_takes}
use Rattle.spv_make.specs.Instructions.{instructions}

abbrev pub are_words : List ℕ → Bool
are_words words = list_all (λ w. ltb w 4294967296) words

pub all_fit : (words : List ℕ) → are_words words ≡ true → AllByRecursion (λ w. w < 2 ^ 32) words
all_fit [] e = tt
all_fit (w ∷ words) e =
    let both = and_parts (ltb w 4294967296) (are_words words) e in
    (ltb-true w 4294967296 both.0, all_fit words both.1)

-- each of these instructions is read as itself
abbrev AreRead : List Inst → Type 0
AreRead insts = AllByRecursion (λ i. ◌≡◌ {A = Result Inst Refusal} (inst_of (raw_of i)) (Ok i)) insts

abbrev all_words : List Inst → Bool
all_words insts = list_all (λ i. are_words (raw_of i).rest) insts

-- instructions that are read as themselves
from_read : (insts : List Inst) → AreRead insts → all_words insts ≡ true → AllByRecursion IsInst insts
from_read [] read fits = tt
from_read (i ∷ insts) read fits =
    let both = and_parts (are_words (raw_of i).rest) (all_words insts) fits in
    ((inst_takes (raw_of i) i (words_from (raw_of i).rest (all_fit (raw_of i).rest both.0)) read.0).is_inst, from_read insts read.1 both.1)

are_read : (t : ℕ) → AreRead (instructions t)
unfolding instructions raw_of row_of table inst_of inst_by operands_of part_at text_at text_len text_bytes is_padded lib.Count.ones
are_read t = (refl, (refl, (refl, (refl, (refl, (refl, (refl, (refl, (refl, (refl, (refl, (refl, (refl, (refl, (refl, (refl, (refl, (refl, (refl, (refl, (refl, (refl, (refl, (refl, (refl, (refl, (refl, (refl, (refl, (refl, (refl, (refl, (refl, (refl, (refl, (refl, (refl, (refl, (refl, (refl, (refl, (refl, (refl, (refl, (refl, (refl, (refl, (refl, (refl, (refl, (refl, (refl, (refl, (refl, (refl, (refl, (refl, (refl, (refl, (refl, (refl, (refl, (refl, (refl, (refl, (refl, (refl, (refl, (refl, (refl, (refl, (refl, (refl, (refl, (refl, (refl, (refl, (refl, (refl, (refl, (refl, (refl, (refl, (refl, (refl, (refl, (refl, (refl, (refl, tt)))))))))))))))))))))))))))))))))))))))))))))))))))))))))))))))))))))))))))))))))))))))))

are_all_words : (t : ℕ) → t < 4294967296 → all_words (instructions t) ≡ true
unfolding instructions raw_of row_of table
are_all_words t fits = rw (lt-ltb t 4294967296 fits) refl

pub instructions_are : (t : ℕ) → t < 4294967296 → AllByRecursion IsInst (instructions t)
instructions_are t fits = from_read (instructions t) (are_read t) (are_all_words t fits)
