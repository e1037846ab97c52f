pub mod Positions
pub mod Run
pub mod History
pub mod Group
pub mod Motion
pub mod Costs
pub mod Touches
