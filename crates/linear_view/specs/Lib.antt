pub mod View
pub mod Instruction
pub mod Range
