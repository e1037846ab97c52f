-- What crates above cite of this crate's lemmas; every other file of proofs is the crate's own.
-- Where no halts are set none hits.
pub use Rattle.spv_hits.proofs.HaltLemmas.{none_set}
pub use Rattle.spv_hits.proofs.NumberLemmas.{none_there}
-- Whether a halt hits behind the event at a position.
pub use Rattle.spv_hits.proofs.HaltLemmas.{hit_behind}
-- A kit that follows a group may be told the event at its position, and follows it then to the next one.
pub use Rattle.spv_hits.proofs.HaltLemmas.{told_below, forth_tests, forth_follows}
-- It may take that event back, and follows the group back then.
pub use Rattle.spv_hits.proofs.HaltLemmas.{back_above, back_tests, back_follows}
