mod OrderLemmas
mod CapabilityLemmas
mod DefinitionLemmas
mod IdLemmas
mod InOrder
mod Results
mod TypesFirst
mod NamedResults
pub mod Exports
