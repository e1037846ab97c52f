-- What crates above cite of this crate's lemmas; every other file of proofs is the crate's own.
-- Walks over instructions with where they stand, as loops go.
pub use Rattle.spv_cfg.proofs.Walks.{stand}
-- Modules in which no rule of the layout is broken: a block goes on to its terminator, and a function to its first block.
pub use Rattle.spv_cfg.proofs.LayoutLemmas.{IsWhole, whole_parts, not_reported, stays_inside}
-- A module in which no rule is broken.
pub use Rattle.spv_cfg.proofs.FlowLemmas.{flow_accepted}
-- Each label that a terminator may go to is one of its function, and its block has a first executable.
pub use Rattle.spv_cfg.proofs.TargetLaws.{all_from_test, right_from_none}
-- Each function has a depth, and a first block that has a first executable.
pub use Rattle.spv_cfg.proofs.FunctionLaws.{opcode_of_function}
-- The heaviest chains of calls are chains, and no chain is heavier; so are the longest; chains through a cycle have any length.
pub use Rattle.spv_cfg.proofs.LongestChains.{longest_is_longest}
