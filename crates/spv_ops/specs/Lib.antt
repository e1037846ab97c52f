pub mod Opcodes
pub mod Grammar
pub mod Steps
pub mod Strings
pub mod Rests
pub mod Encoding
pub mod Reading
pub mod Module
