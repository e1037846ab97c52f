-- Words of bytes, and bytes of words.
use Rattle.std.proofs.Common.{◌≡◌, ℕ, suc, ◌*◌, ◌^◌, ◌<◌, ◌≤◌, Bool, true, false, List, [], ◌∷◌, length, slice_index, refl, sym, ap, ◌∙◌, arith, Ok, Err}
use Rattle.std.specs.List.{flat_map}
use Rattle.std.specs.Int.{byte_at}
use Rattle.byteorder.specs.Endian.{IsRead, big_number, little_number, big_bytes, little_bytes}
use Rattle.byteorder.specs.Numbers.{big_number-reads_back, little_number-reads_back}
use Rattle.spv_words.specs.Header.{is_size, is_magic, breaches, accepted_unless, HasHeader}
use Rattle.spv_words.specs.Words.{word_of, group_words, is_big, words_of}
use Rattle.spv_words.proofs.HeaderLemmas.{breaches-none, is_size-long}

pub big_number-word : (a b c d : ℕ) (rest : List ℕ) → big_number 4 (a ∷ b ∷ c ∷ d ∷ rest) ≡ word_of true a b c d
big_number-word a b c d rest = omega arith

pub little_number-word : (a b c d : ℕ) (rest : List ℕ) → little_number 4 (a ∷ b ∷ c ∷ d ∷ rest) ≡ word_of false a b c d
little_number-word a b c d rest = omega arith

-- the numbers of each four bytes are the words
pub group_words-read : (big : Bool) (number : ℕ → List ℕ → ℕ) → ((a b c d : ℕ) (rest : List ℕ) → number 4 (a ∷ b ∷ c ∷ d ∷ rest) ≡ word_of big a b c d)
    → (words bytes : List ℕ) → length bytes ≡ 4 * length words → IsRead number 4 bytes words → group_words big bytes ≡ words
group_words-read big number reads [] [] long each = refl
group_words-read big number reads [] (a ∷ bytes) long each = absurd (omega (arith, long))
group_words-read big number reads (word ∷ words) [] long each = absurd (omega (arith, long))
group_words-read big number reads (word ∷ words) (a ∷ []) long each = absurd (omega (arith, long))
group_words-read big number reads (word ∷ words) (a ∷ b ∷ []) long each = absurd (omega (arith, long))
group_words-read big number reads (word ∷ words) (a ∷ b ∷ c ∷ []) long each = absurd (omega (arith, long))
group_words-read big number reads (word ∷ words) (a ∷ b ∷ c ∷ d ∷ bytes) long each =
    let first : word ≡ number 4 (a ∷ b ∷ c ∷ d ∷ bytes) = each 0 (omega arith) in
    let others : IsRead number 4 bytes words =
    λ k within.
    let four : 4 * suc k ≡ suc (suc (suc (suc (4 * k)))) = omega arith in
    let next = each (suc k) (omega (arith, within)) in
    rw four at next in
    rw (group_words-read big number reads words bytes (omega (arith, long)) others, first, reads a b c d bytes) refl

pub group_words-big : (words bytes : List ℕ) → length bytes ≡ 4 * length words → IsRead big_number 4 bytes words → group_words true bytes ≡ words
group_words-big = group_words-read true big_number big_number-word

pub group_words-little : (words bytes : List ℕ) → length bytes ≡ 4 * length words → IsRead little_number 4 bytes words → group_words false bytes ≡ words
group_words-little = group_words-read false little_number little_number-word

-- the first word shows the order
pub is_big-number : (bytes : List ℕ) → 4 ≤ length bytes → is_big bytes ≡ is_magic (big_number 4 bytes)
is_big-number [] long = absurd (omega (arith, long))
is_big-number (a ∷ []) long = absurd (omega (arith, long))
is_big-number (a ∷ b ∷ []) long = absurd (omega (arith, long))
is_big-number (a ∷ b ∷ c ∷ []) long = absurd (omega (arith, long))
is_big-number (a ∷ b ∷ c ∷ d ∷ rest) long = ap is_magic (sym (big_number-word a b c d rest))

-- bytes of no module's size
pub words_of-wrong_size : (bytes : List ℕ) → is_size (length bytes) ≡ false → words_of bytes ≡ Err (record { code = 1; word = 0 })
unfolding words_of
words_of-wrong_size bytes wrong = rw wrong refl

-- the words that are due, by those that were read
pub words_of-read : (bytes words : List ℕ) (big : Bool) → is_big bytes ≡ big → group_words big bytes ≡ words → length bytes ≡ 4 * length words
    → words_of bytes ≡ accepted_unless (breaches (4 * length words) words) (record { big = big; items = words })
unfolding words_of
words_of-read bytes words big order read long = rw (order, read, long) refl

-- the same, by the number that the first four bytes show
pub words_of-shown : (bytes words : List ℕ) (shown : ℕ) → is_size (length bytes) ≡ true → shown ≡ big_number 4 bytes
    → group_words (is_magic shown) bytes ≡ words → length bytes ≡ 4 * length words
    → words_of bytes ≡ accepted_unless (breaches (4 * length words) words) (record { big = is_magic shown; items = words })
words_of-shown bytes words shown size is read long =
    words_of-read bytes words (is_magic shown) (is_big-number bytes (is_size-long (length bytes) size) ∙ ap is_magic (sym is)) read long

-- The bytes of words, where those of each are four that give it again.
module _ (big : Bool) (bytes : ℕ → List ℕ) (a b c d : ℕ → ℕ) (four : (word : ℕ) → bytes word ≡ a word ∷ b word ∷ c word ∷ d word ∷ [])
    (back : (word : ℕ) → word < 2 ^ 32 → word_of big (a word) (b word) (c word) (d word) ≡ word) where
  pub group_words-flat_map : (words : List ℕ) → ((k : ℕ) → slice_index words k < 2 ^ 32) → group_words big (flat_map bytes words) ≡ words
  group_words-flat_map [] fits = refl
  group_words-flat_map (word ∷ words) fits = rw (four word, back word (fits 0), group_words-flat_map words (λ k. fits (suc k))) refl

  pub length-flat_map : (words : List ℕ) → length (flat_map bytes words) ≡ 4 * length words
  length-flat_map [] = refl
  length-flat_map (word ∷ words) = let rest = length-flat_map words in rw (four word) (omega (arith, rest))

word_of-big_bytes : (word : ℕ) → word < 2 ^ 32 → word_of true (byte_at 3 word) (byte_at 2 word) (byte_at 1 word) (byte_at 0 word) ≡ word
word_of-big_bytes word fits = sym (big_number-word (byte_at 3 word) (byte_at 2 word) (byte_at 1 word) (byte_at 0 word) []) ∙ big_number-reads_back 4 word [] fits

word_of-little_bytes : (word : ℕ) → word < 2 ^ 32 → word_of false (byte_at 0 word) (byte_at 1 word) (byte_at 2 word) (byte_at 3 word) ≡ word
word_of-little_bytes word fits = sym (little_number-word (byte_at 0 word) (byte_at 1 word) (byte_at 2 word) (byte_at 3 word) []) ∙ little_number-reads_back 4 word [] fits

-- the lowest byte first, the magic number is another number in the other order
little_bytes-not_big : (words : List ℕ) → HasHeader words → is_big (flat_map (little_bytes 4) words) ≡ false
little_bytes-not_big [] h = absurd (omega (arith, h.long))
little_bytes-not_big (word ∷ words) h = let magic : word ≡ 0x07230203 = h.magic in rw magic refl

-- the bytes of words, the highest first, give the words
pub words_of-big_bytes : (words : List ℕ) → HasHeader words → ((k : ℕ) → slice_index words k < 2 ^ 32)
    → words_of (flat_map (big_bytes 4) words) ≡ Ok (record { big = true; items = words })
words_of-big_bytes words h fits =
    let read = group_words-flat_map true (big_bytes 4) (byte_at 3) (byte_at 2) (byte_at 1) (byte_at 0) (λ word. refl) word_of-big_bytes words fits in
    let long = length-flat_map true (big_bytes 4) (byte_at 3) (byte_at 2) (byte_at 1) (byte_at 0) (λ word. refl) word_of-big_bytes words in
    let order : is_big (flat_map (big_bytes 4) words) ≡ true = rw (read, h.magic) refl in
    words_of-read (flat_map (big_bytes 4) words) words true order read long ∙ rw (breaches-none words h) refl

-- the bytes of words, the lowest first, give the words
pub words_of-little_bytes : (words : List ℕ) → HasHeader words → ((k : ℕ) → slice_index words k < 2 ^ 32)
    → words_of (flat_map (little_bytes 4) words) ≡ Ok (record { big = false; items = words })
words_of-little_bytes words h fits =
    let read = group_words-flat_map false (little_bytes 4) (byte_at 0) (byte_at 1) (byte_at 2) (byte_at 3) (λ word. refl) word_of-little_bytes words fits in
    let long = length-flat_map false (little_bytes 4) (byte_at 0) (byte_at 1) (byte_at 2) (byte_at 3) (λ word. refl) word_of-little_bytes words in
    words_of-read (flat_map (little_bytes 4) words) words false (little_bytes-not_big words h) read long ∙ rw (breaches-none words h) refl
