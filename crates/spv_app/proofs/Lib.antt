mod Openings
mod Headlines
mod Checks
mod Readings
mod Decodings
mod OpeningLemmas
mod Makings
mod Servings
