mod Walks
mod Orders
mod ChainLemmas
mod LayoutLemmas
mod FlowLemmas
mod BlockLaws
mod TargetLaws
mod FunctionLaws
mod LongestChains
pub mod Exports
