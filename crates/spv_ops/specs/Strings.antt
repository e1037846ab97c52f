-- Strings in words (SPIR-V 1.6 section 2.2.1): the bytes and a zero byte, four to a word, the first in the lowest-order byte, padded with zero bytes.
use Rattle.std.specs.Prelude.{ℕ, ◌+◌, ◌*◌, ◌/◌, ◌%◌, ◌==◌, Bool, List, [], ◌∷◌, ◌++◌, take, drop, Result, Ok, Err, if◌then◌else◌}
use Rattle.std.specs.List.{list_all}
use Rattle.std.specs.Int.{w32, to_le_bytes}
use Rattle.spv_ops.specs.declared.reading.WrongOperands.{WrongOperands}
use Rattle.spv_ops.specs.Steps.{◌>>=◌}

-- a word of four bytes
abbrev pub word_of : ℕ → ℕ → ℕ → ℕ → ℕ
word_of a b c d = a + 256 * b + 65536 * c + 16777216 * d

-- the words of a string
abbrev pub words_of_text : List ℕ → List ℕ
words_of_text [] = word_of 0 0 0 0 ∷ []
words_of_text (a ∷ []) = word_of a 0 0 0 ∷ []
words_of_text (a ∷ b ∷ []) = word_of a b 0 0 ∷ []
words_of_text (a ∷ b ∷ c ∷ []) = word_of a b c 0 ∷ []
words_of_text (a ∷ b ∷ c ∷ d ∷ bytes) = word_of a b c d ∷ words_of_text bytes

-- how many bytes of a word stand before its first zero byte
unfoldable pub text_len : ℕ → ℕ
text_len word =
    if word % 256 == 0 then 0
    else if word / 256 % 256 == 0 then 1
    else if word / 65536 % 256 == 0 then 2
    else if word / 16777216 % 256 == 0 then 3
    else 4

-- those bytes
unfoldable pub text_bytes : ℕ → List ℕ
text_bytes word = take (text_len word) (to_le_bytes w32 word)

-- each of the other bytes is zero
unfoldable pub is_padded : ℕ → Bool
is_padded word = list_all (λ byte. byte == 0) (drop (text_len word) (to_le_bytes w32 word))

-- the string at the front of these words, and the words after it
unfoldable pub text_at : List ℕ → Result (List ℕ × List ℕ) WrongOperands
text_at [] = Err (record {})
text_at (word ∷ words) =
    if text_len word == 4 then (text_at words >>= λ more. Ok (text_bytes word ++ more.0, more.1))
    else if is_padded word then Ok (text_bytes word, words)
    else Err (record {})
