mod LineLemmas
mod RowLemmas
mod IndexLemmas
mod ScheduleLemmas
