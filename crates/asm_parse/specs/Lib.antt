pub mod Statements
pub mod Source
pub mod Reads
pub mod Refusals
pub mod Answers
