pub mod Operands
pub mod Computations
pub mod Results
