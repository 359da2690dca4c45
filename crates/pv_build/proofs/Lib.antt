pub mod Halts
pub mod Readings
pub mod Failures
mod Sources
mod Objects
mod Builds
pub mod LineTexts
mod WorkLines
