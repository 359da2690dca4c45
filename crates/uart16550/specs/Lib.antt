pub mod Registers
pub mod Ports
pub mod States
