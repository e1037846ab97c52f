-- What crates above cite of the session's lemmas.
pub use Rattle.spv_session.proofs.Exports.{reply_now, cost_now}
