pub mod Frames
pub mod Pool
pub mod Held
