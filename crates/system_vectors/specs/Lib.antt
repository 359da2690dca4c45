pub mod Resumed
