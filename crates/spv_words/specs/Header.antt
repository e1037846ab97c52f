-- The rules of a module's size and header, and which of them are broken (SPIR-V 1.6 section 2.3).
use Rattle.std.specs.Prelude.{ℕ, ◌%◌, ◌≡◌, ◌≤◌, ◌==◌, nat_le, ◌&&◌, Bool, true, if◌then◌else◌, List, [], ◌∷◌, ◌++◌, length, slice_index, Result, Ok, Err}
use Rattle.std.specs.List.{list_any}
use Rattle.spv_base.specs.declared.causes.Refusal.{Refusal}

-- at least the five words of a header, whole words, and at most 4 MiB
abbrev pub is_size : ℕ → Bool
is_size bytes = nat_le 20 bytes && (bytes % 4 == 0) && nat_le bytes 4194304

-- the magic number
abbrev pub is_magic : ℕ → Bool
is_magic word = word == 0x07230203

-- versions 1.3, 1.4, 1.5 and 1.6
abbrev pub is_version : ℕ → Bool
is_version word = list_any (λ version. word == version) (0x00010300 ∷ 0x00010400 ∷ 0x00010500 ∷ 0x00010600 ∷ [])

-- the bound of ids: every id is above 0 and below it
abbrev pub is_bound : ℕ → Bool
is_bound word = nat_le 1 word && nat_le word 1048576

-- the rule with this code, which stands at this word, unless it is kept
abbrev pub broken_unless : Bool → ℕ → ℕ → List Refusal
broken_unless kept code word = if kept then [] else record { code = code; word = word } ∷ []

-- each broken rule of a module of so many bytes that has these words: the lowest word first, and at one word the lowest code
abbrev pub breaches : ℕ → List ℕ → List Refusal
breaches bytes words =
    broken_unless (is_size bytes) 1 0
    ++ broken_unless (is_magic (slice_index words 0)) 2 0
    ++ broken_unless (is_version (slice_index words 1)) 3 1
    ++ broken_unless (is_bound (slice_index words 3)) 4 3

-- the first breach is refused, and without any the value is accepted
abbrev pub accepted_unless : {T : Type 0} → List Refusal → T → Result T Refusal
accepted_unless [] value = Ok value
accepted_unless (first ∷ rest) value = Err first

-- words in which no rule is broken
pub record HasHeader (words : List ℕ) : Type 0 where
  pub long : 5 ≤ length words
  pub short : length words ≤ 1048576
  pub magic : slice_index words 0 ≡ 0x07230203
  pub version : is_version (slice_index words 1) ≡ true
  pub bound_low : 1 ≤ slice_index words 3
  pub bound_high : slice_index words 3 ≤ 1048576
