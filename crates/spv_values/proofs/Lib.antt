mod RowLemmas
mod SingleLemmas
pub mod Exports
