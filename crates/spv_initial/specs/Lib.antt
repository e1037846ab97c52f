pub mod Variables
pub mod Elements
pub mod Values
pub mod Start
pub mod Below
