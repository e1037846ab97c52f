-- How many words operands and instructions have.
use Rattle.std.proofs.Common.{◌≡◌, ℕ, ◌+◌, ◌/◌, List, [], ◌∷◌, length, refl, arith}
use Rattle.spv_ops.specs.Strings.{words_of_text}

-- a text has a zero byte behind it, and four bytes in a word
pub text_words : (bytes : List ℕ) → length (words_of_text bytes) ≡ length bytes / 4 + 1
text_words [] = refl
text_words (a ∷ []) = refl
text_words (a ∷ b ∷ []) = refl
text_words (a ∷ b ∷ c ∷ []) = refl
text_words (a ∷ b ∷ c ∷ d ∷ bytes) = let more = text_words bytes in omega arith
