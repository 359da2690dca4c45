pub mod Parts
pub mod Decimals
pub mod Reading
