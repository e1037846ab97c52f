mod ScopeLemmas
mod VariableLemmas
mod PortionLemmas
mod PathLemmas
