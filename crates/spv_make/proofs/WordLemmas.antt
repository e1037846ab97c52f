-- The words of the module, and that its bytes are read as them.
use Rattle.std.proofs.Common.{◌≡◌, ℕ, ◌*◌, ◌<◌, true, false, List, length, Result, Ok, Err, refl, ap, ◌∙◌, arith}
use Rattle.std.specs.Prelude.{IfOk}
use Rattle.std.specs.List.{flat_map}
use Rattle.std.proofs.lemmas.Bool.{lt-ltb}
use Rattle.byteorder.specs.Endian.{little_bytes}
use Rattle.spv_base.specs.declared.causes.NoMemory.{NoMemory}
use Rattle.spv_ops.specs.Encoding.{raw_of}
use Rattle.spv_ops.specs.Grammar.{row_of}
use Rattle.spv_ops.specs.Opcodes.{table}
use Rattle.spv_words.specs.Header.{HasHeader}
use Rattle.spv_words.specs.Words.{words_of}
use Rattle.spv_words.proofs.Exports.{words_of-little_bytes}
use Rattle.spv_make.specs.Inputs.{words_for}
use Rattle.spv_make.specs.Instructions.{instructions}
use Rattle.spv_make.proofs.Insts.{are_words, all_fit}
use Rattle.spv_ops.proofs.Exports.{words_from}

pub length_is : (n : ℕ) → length (words_for n) ≡ 444
unfolding words_for instructions raw_of row_of table
length_is n = refl

has_header : (n : ℕ) → HasHeader (words_for n)
unfolding words_for
has_header n = record {
  long = omega (arith, length_is n);
  short = omega (arith, length_is n);
  magic = refl;
  version = refl;
  bound_low = omega arith;
  bound_high = omega arith;
}

words_fit : (n : ℕ) → 4 * n < 4294967296 → are_words (words_for n) ≡ true
unfolding words_for instructions raw_of row_of table
words_fit n small = rw (lt-ltb (4 * n) 4294967296 small) refl

pub read_of : (n : ℕ) → 4 * n < 4294967296 → words_of (flat_map (little_bytes 4) (words_for n)) ≡ Ok (record { big = false; items = words_for n })
read_of n small = words_of-little_bytes (words_for n) (has_header n) (words_from (words_for n) (all_fit (words_for n) (words_fit n small)))

pub bytes_then : (n : ℕ) (result : Result (List ℕ) NoMemory) → 4 * n < 4294967296
    → IfOk result (λ bytes. bytes ≡ flat_map (little_bytes 4) (words_for n)) → IfOk result (λ bytes. words_of bytes ≡ Ok (record { big = false; items = words_for n }))
bytes_then n (Ok bytes) small is = ap words_of is ∙ read_of n small
bytes_then n (Err e) small is = tt
