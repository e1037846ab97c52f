-- Reading a string word by word, as a loop does.
use Rattle.std.proofs.Common.{◌≡◌, ℕ, suc, ◌+◌, ◌<◌, ◌≤◌, true, false, List, ◌++◌, length, get_or, take, drop, drop-cons, add-one, Result, Ok, Err, refl, sym, ap, ◌∙◌, append_assoc, arith}
use Rattle.std.specs.Prelude.{◌==◌}
use Rattle.std.proofs.lemmas.List.{drop_all}
use Rattle.std.proofs.lemmas.Bool.{ne_eqb}
use Rattle.spv_ops.specs.declared.reading.WrongOperands.{WrongOperands}
use Rattle.spv_ops.specs.Steps.{◌>>=◌, after}
use Rattle.spv_ops.specs.Strings.{text_len, text_bytes, is_padded, text_at}

abbrev Read : Type 0
Read = Result (List ℕ × List ℕ) WrongOperands

regroup : (front piece : List ℕ) (read : Read) → after front (read >>= λ more. Ok (piece ++ more.0, more.1)) ≡ after (front ++ piece) read
regroup front piece (Ok x) = ap (λ (bytes : List ℕ). Ok (bytes, x.1)) (sym (append_assoc front piece x.0))
regroup front piece (Err e) = refl

-- a word of four bytes: the string goes on
pub text_more : (front : List ℕ) (words : List ℕ) (i : ℕ) (total : Read) → i < length words → text_len (get_or words i 0) ≡ 4
    → after front (text_at (drop i words)) ≡ total → after (front ++ text_bytes (get_or words i 0)) (text_at (drop (i + 1) words)) ≡ total
unfolding text_at
text_more front words i total lt four so_far =
    let step : after front (text_at (drop i words)) ≡ after (front ++ text_bytes (get_or words i 0)) (text_at (drop (i + 1) words))
    = rw (add-one, drop-cons words i 0 lt, four) (regroup front (text_bytes (get_or words i 0)) (text_at (drop (suc i) words))) in
    sym step ∙ so_far

-- a word with a zero byte: the string ends in it
pub text_ends : (front : List ℕ) (words : List ℕ) (i : ℕ) (total : Read) → i < length words → (text_len (get_or words i 0) ≡ 4 → ⊥) → is_padded (get_or words i 0) ≡ true
    → after front (text_at (drop i words)) ≡ total → total ≡ Ok (front ++ text_bytes (get_or words i 0), drop (i + 1) words)
unfolding text_at
text_ends front words i total lt short padded so_far =
    let none : (text_len (get_or words i 0) == 4) ≡ false = ne_eqb _ _ short in
    let step : after front (text_at (drop i words)) ≡ Ok (front ++ text_bytes (get_or words i 0), drop (i + 1) words) = rw (add-one, drop-cons words i 0 lt, none, padded) refl in
    sym so_far ∙ step

-- a byte after the end is not zero
pub text_unpadded : (front : List ℕ) (words : List ℕ) (i : ℕ) (total : Read) → i < length words → (text_len (get_or words i 0) ≡ 4 → ⊥) → is_padded (get_or words i 0) ≡ false
    → after front (text_at (drop i words)) ≡ total → total ≡ Err (record {})
unfolding text_at
text_unpadded front words i total lt short padded so_far =
    let none : (text_len (get_or words i 0) == 4) ≡ false = ne_eqb _ _ short in
    let step : after front (text_at (drop i words)) ≡ Err (record {}) = rw (drop-cons words i 0 lt, none, padded) refl in
    sym so_far ∙ step

-- no word has a zero byte
pub text_endless : (front : List ℕ) (words : List ℕ) (i : ℕ) (total : Read) → length words ≤ i
    → after front (text_at (drop i words)) ≡ total → total ≡ Err (record {})
unfolding text_at
text_endless front words i total le so_far =
    let step : after front (text_at (drop i words)) ≡ Err (record {}) = rw (drop_all i words le) refl in
    sym so_far ∙ step
