-- What crates above cite of this crate's lemmas; every other file of proofs is the crate's own.
-- Registers by their ids, and by their numbers.
pub use Rattle.spv_frame.proofs.RegisterLemmas.{number_at, number_inside, put_back}
-- The slots of a plan, and the row of a frame without values.
pub use Rattle.spv_frame.proofs.PlanLemmas.{planned_is}
-- Registers by their numbers in a plan.
pub use Rattle.spv_frame.proofs.NumberLemmas.{inside}
-- Arguments in the registers of parameters.
pub use Rattle.spv_frame.proofs.CallLemmas.{plan_stays}
