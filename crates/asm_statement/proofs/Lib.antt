pub mod Feeding
pub mod Advancing
pub mod Growing
