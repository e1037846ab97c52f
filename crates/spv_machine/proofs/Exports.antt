-- What crates above cite of this crate's lemmas; every other file of proofs is the crate's own.
-- What a step does is an event of its invocation that isn't idle.
pub use Rattle.spv_machine.proofs.EventLemmas.{IsMove, IsMoved, step_moves}
