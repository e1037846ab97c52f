-- The words of a module's bytes, in the byte order that the magic number shows (SPIR-V 1.6 section 2.3).
use Rattle.std.specs.Prelude.{ℕ, ◌+◌, ◌*◌, ◌^◌, ◌<◌, Bool, true, false, List, [], ◌∷◌, length, slice_index, Result}
use Rattle.spv_base.specs.declared.causes.Refusal.{Refusal}
use Rattle.spv_words.specs.Header.{is_magic, breaches, accepted_unless}

-- a module's words, and whether the highest of a word's bytes stands first
pub record ModuleWords : Type 0 where
  pub big : Bool
  pub items : List ℕ

-- the number that four bytes are, with the highest first or with the lowest first
abbrev pub word_of : Bool → ℕ → ℕ → ℕ → ℕ → ℕ
word_of true a b c d = 16777216 * a + 65536 * b + 256 * c + d
word_of false a b c d = 16777216 * d + 65536 * c + 256 * b + a

-- The words of bytes, four bytes a word. Fewer than four at the end are no word: `breaches` refuses such a size.
abbrev pub group_words : Bool → List ℕ → List ℕ
group_words big (a ∷ b ∷ c ∷ d ∷ rest) = word_of big a b c d ∷ group_words big rest
group_words big rest = []

-- whether the first word is the magic number with the highest byte first; where there is no word it is 0, which is no magic number
abbrev pub is_big : List ℕ → Bool
is_big bytes = is_magic (slice_index (group_words true bytes) 0)

-- the words in one order
abbrev pub read_in : Bool → List ℕ → ModuleWords
read_in big bytes = record { big = big; items = group_words big bytes }

-- a module's words, or the first rule of its size and header that is broken: the order is the one in which the first word is the magic number
unfoldable pub words_of : List ℕ → Result ModuleWords Refusal
words_of bytes =
    let module_words = read_in (is_big bytes) bytes in
    accepted_unless (breaches (length bytes) module_words.items) module_words

-- each is a word of 32 bits
abbrev pub Fit32 : List ℕ → Type 0
Fit32 words = (k : ℕ) → slice_index words k < 2 ^ 32
