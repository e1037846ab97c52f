pub mod Numbers
pub mod Paths
pub mod Places
pub mod Grammar
pub mod Answers
pub mod Lines
pub mod Commands
