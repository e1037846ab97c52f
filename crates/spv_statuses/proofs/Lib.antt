mod BarrierLemmas
mod CountLemmas
mod MapLemmas
pub mod Exports
