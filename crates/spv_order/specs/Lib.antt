pub mod Order
pub mod Arrivals
pub mod Touches
pub mod Reaches
pub mod Sweep
pub mod Exchanges
