pub mod Began
pub mod Changed
pub mod Raised
pub mod Stored
pub mod Line
