pub mod Answers
pub mod Ways
pub mod Costs
pub mod Below
