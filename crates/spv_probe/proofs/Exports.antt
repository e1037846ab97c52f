-- What crates above cite of this crate's lemmas; every other file of proofs is the crate's own.
-- A kit that counted some events may be told one more, and may take back the last.
pub use Rattle.spv_probe.proofs.FollowLemmas.{follows_below, follows_above}
-- A kit that follows has the tests that it follows, also one without a probe.
pub use Rattle.spv_probe.proofs.FollowLemmas.{follows_tests, follows_own, follows_none, any_tests}
