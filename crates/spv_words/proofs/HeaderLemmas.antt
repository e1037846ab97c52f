-- Which rules of a module's size and header are broken.
use Rattle.std.proofs.Common.{◌≡◌, ℕ, ◌*◌, ◌≤◌, true, List, [], length, slice_index, refl, arith}
use Rattle.spv_words.specs.Header.{is_size, is_magic, is_bound, breaches, HasHeader}

pub is_size-words : (count : ℕ) → 5 ≤ count → count ≤ 1048576 → is_size (4 * count) ≡ true
is_size-words count long short = grind arith

-- none is broken
pub breaches-none : (words : List ℕ) → HasHeader words → breaches (4 * length words) words ≡ []
breaches-none words h =
    let size = is_size-words (length words) h.long h.short in
    let magic : is_magic (slice_index words 0) ≡ true = grind (arith, h.magic) in
    let bound : is_bound (slice_index words 3) ≡ true = grind (arith, h.bound_low, h.bound_high) in
    rw (size, magic, h.version, bound) refl

pub is_size-long : (bytes : ℕ) → is_size bytes ≡ true → 4 ≤ bytes
is_size-long bytes h = grind (arith, h)
