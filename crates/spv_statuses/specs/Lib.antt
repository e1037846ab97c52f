pub mod Invocations
pub mod Group
