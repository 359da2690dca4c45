pub mod Cuts
pub mod Numbers
pub mod Lines
pub mod Answers
