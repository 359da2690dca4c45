pub mod Finished
pub mod Owned
pub mod Progress
pub mod Seen
pub mod Settled
pub mod Told
