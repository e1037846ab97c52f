-- What crates above cite of this crate's lemmas; every other file of proofs is the crate's own.
-- An instruction that is read has the words that it is read from, and the words of an instruction are read again.
pub use Rattle.spv_ops.proofs.InstLaws.{inst_takes, words_from}
