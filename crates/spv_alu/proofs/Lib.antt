mod BitNumbers
mod Quotients
mod Remainders
mod Widths
mod Places
mod Insertions
mod Casts
pub mod Exports
