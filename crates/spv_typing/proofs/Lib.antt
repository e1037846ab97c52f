mod LawLemmas
pub mod Exports
