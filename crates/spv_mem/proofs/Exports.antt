-- What crates above cite of this crate's lemmas; every other file of proofs is the crate's own.
-- The leaves of types, by their forms, and the parts of values, each with its type.
pub use Rattle.spv_mem.proofs.CountLemmas.{is_counted_by}
-- What a path names in a value of a variable: the part, its type and the leaves before it, or nothing.
pub use Rattle.spv_mem.proofs.PartLemmas.{part_cons}
-- Where the part that a path names lies in the row of a variable, by numbers of 64 bits.
pub use Rattle.spv_mem.proofs.PlaceLemmas.{whole_row}
-- What an exchange in one variable is to the whole memory, and that it keeps what a memory keeps.
pub use Rattle.spv_mem.proofs.MemoryLemmas.{get_set, change_set, stored_kept}
-- Locals that come and go keep what a memory keeps.
pub use Rattle.spv_mem.proofs.ChangeLemmas.{levels_kept}
-- Undefined values: they are made of their forms, and have their shapes.
pub use Rattle.spv_mem.proofs.BlankLemmas.{blank_among_is, both_there, product_there, blank_shape, any_is, many_last, scalar_last, many_count, scalar_count}
-- What the types of variables tell of the parts that pointers name.
pub use Rattle.spv_mem.proofs.ConditionLemmas.{scalar_if, may_if}
-- A path whose last index goes further leads to the same type.
pub use Rattle.spv_mem.proofs.ChainLemmas.{reached_append, ptr_moved_reaches}
