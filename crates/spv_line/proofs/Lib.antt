mod WordsLemmas
mod NumberLemmas
mod HexLemmas
pub mod Exports
