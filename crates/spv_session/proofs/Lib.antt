mod CostLemmas
mod ReplyLemmas
mod RegisterLemmas
mod ShownLemmas
mod InfoLemmas
mod SightLemmas
mod SearchLemmas
mod CauseLemmas
mod ProbeLemmas
mod NowLemmas
mod OrderLemmas
mod OrderReplyLemmas
pub mod Exports
