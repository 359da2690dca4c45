pub mod Fields
pub mod Joined
pub mod Chunks
pub mod Built
pub mod Filled
pub mod Padded
pub mod Sources
