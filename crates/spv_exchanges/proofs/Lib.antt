mod Reorderings
mod LookLemmas
mod RunLemmas
