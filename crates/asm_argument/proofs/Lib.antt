pub mod Digits
pub mod Forming
pub mod Operands
pub mod Strings
