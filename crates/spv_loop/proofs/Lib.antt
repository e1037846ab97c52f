mod Spending
mod Transcripts
mod Pieces
mod Cuts
mod Runs
mod Splits
mod Offerings
pub mod Exports
