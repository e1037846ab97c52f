pub mod Operands
pub mod Lanes
pub mod Rules
pub mod Fitting
pub mod Glsl
pub mod Laws
