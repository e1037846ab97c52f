-- Bytes in a line: what pairs of hexadecimal digits spell.
use Rattle.std.specs.Prelude.{◌≡◌, ◌<◌, true, ℕ, ◌+◌, ◌-◌, ◌*◌, ◌%◌, ◌==◌, nat_lt, nat_le, ◌&&◌, ◌||◌, Bool, if◌then◌else◌, List, [], ◌∷◌, ◌++◌, length, Option, Some, None}
use Rattle.std.specs.List.{list_all}

-- the digits `0` to `9` are the bytes 48 to 57, `A` to `F` 65 to 70, and `a` to `f` 97 to 102
abbrev pub is_hex_digit : ℕ → Bool
is_hex_digit b = (nat_le 48 b && nat_lt b 58) || ((nat_le 65 b && nat_lt b 71) || (nat_le 97 b && nat_lt b 103))

abbrev pub hex_digit : ℕ → ℕ
hex_digit b = if nat_lt b 58 then b - 48 else if nat_lt b 97 then b - 55 else b - 87

-- a word of pairs of digits
abbrev pub is_hex_word : List ℕ → Bool
is_hex_word word = list_all is_hex_digit word && (length word % 2 == 0)

-- the bytes that pairs of digits spell, the higher digit of each first
abbrev pub pairs_of : List ℕ → List ℕ
pairs_of [] = []
pairs_of (high ∷ []) = []
pairs_of (high ∷ low ∷ digits) = (16 * hex_digit high + hex_digit low) ∷ pairs_of digits

-- digits have a first pair that spells this byte, and these digits after it
pub record HasFirstPair (digits : List ℕ) (byte : ℕ) (rest : List ℕ) : Type 0 where
  pub pairs : pairs_of digits ≡ byte ∷ pairs_of rest
  pub hex : list_all is_hex_digit rest ≡ true
  pub fewer : length rest < length digits

-- the bytes of words, joined
abbrev pub joined_pairs : List (List ℕ) → List ℕ
joined_pairs [] = []
joined_pairs (word ∷ words) = pairs_of word ++ joined_pairs words

-- the bytes that words spell, where each is of pairs of digits; no words spell no bytes
unfoldable pub bytes_of : List (List ℕ) → Option (List ℕ)
bytes_of words = if list_all is_hex_word words then Some (joined_pairs words) else None
