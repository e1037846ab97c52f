-- What crates above cite of this crate's lemmas; every other file of proofs is the crate's own.
-- Values with one outline and the same leaves are the same, and a part that a pointer names in two states that look alike has one outline.
pub use Rattle.spv_touch.proofs.OutlineLemmas.{same_value}
pub use Rattle.spv_touch.proofs.MemoryLemmas.{loads_alike}
-- The next event in two states that look alike to its invocation, and what it leaves to the others.
pub use Rattle.spv_touch.proofs.EventLemmas.{same_due, same_touched, same_arrival}
pub use Rattle.spv_touch.proofs.KindLemmas.{idles, faults}
pub use Rattle.spv_touch.proofs.StepLemmas.{left, made}
-- A state looks the same as itself, and what looks the same in turn does so.
pub use Rattle.spv_touch.proofs.ChangeLemmas.{unchanged, in_turn}
