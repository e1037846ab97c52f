-- What crates above cite of this crate's lemmas; every other file of proofs is the crate's own.
-- The frames of a sound state, at any depth.
pub use Rattle.spv_ids.proofs.FrameLemmas.{frame_sound}
