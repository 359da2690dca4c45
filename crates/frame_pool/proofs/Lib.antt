pub mod Frames
pub mod Chains
pub mod Calls
pub mod Lengths
pub mod Held
pub mod Above
pub mod Props
