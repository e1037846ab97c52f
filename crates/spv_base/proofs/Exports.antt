-- What crates above cite of this crate's lemmas; every other file of proofs is the crate's own.
-- Entries by number: what is read there, and writes and changes that are undone.
pub use Rattle.spv_base.proofs.EntryLemmas.{writes_back, change_back, length_change, change_here, changed_at, change_twice, change_same, change_still, reads_put, reads_other, reads_written, entry_at, reads_each}
-- Lists: what holds of each element, what stands at a place, what is left from one on, and one element more.
pub use Rattle.spv_base.proofs.ListLemmas.{each_weaker, both_each, each_left, each_right, each_at, element_at, get_replicate, set_same, set_back, drop_here, rest_of, get_snoc, last_get, snoc_get, contains_later, both_empty, some_when, empty_when}
-- What may be there: where it is, what holds of it, and tests of it.
pub use Rattle.spv_base.proofs.OptionLemmas.{some_at, none_at, some_and, none_of, same_some, and_some, some_with, mapped_some, mapped_from, guarded, holds_is, some_decides, test_decides}
-- Tests: what they tell, and when they hold.
pub use Rattle.spv_base.proofs.TestLemmas.{itself, at_most, opposite, same_number, not_same, not_below, no_place, some_place, second_false}
-- The lower of more than two words, and the lowest of joined lists of words.
pub use Rattle.spv_base.proofs.LowestLemmas.{lower_none, lower_assoc, lowest-append}
-- What a value of parts is, and a list with another part.
pub use Rattle.spv_base.proofs.PartLemmas.{out_scalar, out_many, out_pointer, is_many, slice_get-set_same}
-- Numbers and pairs that an order finds equal.
pub use Rattle.spv_base.proofs.OrderLemmas.{is_eq-nat_cmp, is_eq-pair}
-- Arithmetic on saturated numbers.
pub use Rattle.spv_base.proofs.SaturationLemmas.{unsaturated, saturated-add, saturated-mul}
