mod ListLemmas
mod CallLemmas
mod SpotLemmas
mod ShownLemmas
mod CountLemmas
mod FileLemmas
mod HeadLemmas
mod FoundLemmas
