mod StringLoop
mod OperandLoop
mod InstLoop
mod StringLaws
mod OperandLaws
mod InstLaws
pub mod Exports
