pub mod Checkpoints
pub mod Unresumed
pub mod Saving
pub mod Resting
pub mod Continuing
pub mod Answering
pub mod Leaving
