pub mod AtomicSites
pub mod PointerSites
