mod ElementLemmas
mod SheetLemmas
mod LoopLemmas
mod TextLemmas
mod PointerLemmas
mod ScalarLemmas
pub mod Exports
