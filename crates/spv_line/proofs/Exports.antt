-- What crates above cite of this crate's lemmas; every other file of proofs is the crate's own.
-- The first word of a line, and the words after it.
pub use Rattle.spv_line.proofs.WordsLemmas.{place_within, place_or_end, some_word, first_are}
-- Digits: a number that was read digit by digit, up to 2 ^ 64, is the number that they spell; decimal texts.
pub use Rattle.spv_line.proofs.NumberLemmas.{number_parts, own, fits, decimal_digits, decimal_some, number_decimal}
