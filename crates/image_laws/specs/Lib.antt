pub mod WaysIn
pub mod Patches
