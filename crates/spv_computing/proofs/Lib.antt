mod DataLemmas
mod CompositeLemmas
mod ConstituentLemmas
mod SelectLemmas
mod ActionLemmas
pub mod Exports
