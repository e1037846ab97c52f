mod SaturationLemmas
mod PartLemmas
mod CompositeLemmas
