-- What crates above cite of this crate's lemmas; every other file of proofs is the crate's own.
-- Words of bytes, and bytes of words.
pub use Rattle.spv_words.proofs.WordLemmas.{words_of-little_bytes}
