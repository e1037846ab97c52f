mod WindowLemmas
mod WalkLemmas
