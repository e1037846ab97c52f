-- What crates above cite of this crate's lemmas; every other file of proofs is the crate's own.
-- Lists from the last element back.
pub use Rattle.spv_index.proofs.ListLemmas.{drop_back}
-- First numbers: under keys that no key is, and as what leads to an instruction.
pub use Rattle.spv_index.proofs.FirstLemmas.{led}
-- What stands under a number in a longer list, and the place of the first entry under a number.
pub use Rattle.spv_index.proofs.SlotLemmas.{place_lt, place_none, place_push}
-- An item that is found by the place of its key.
pub use Rattle.spv_index.proofs.PlaceLemmas.{item_led}
-- Maps to the first instruction under a key, from the last instruction back.
pub use Rattle.spv_index.proofs.KeyLemmas.{same_pair}
-- The standing of the instruction that defines an id, by its number.
pub use Rattle.spv_index.proofs.StandingLemmas.{standing_led, standing_of}
