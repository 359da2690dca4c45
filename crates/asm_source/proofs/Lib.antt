pub mod Keyed
pub mod Held
