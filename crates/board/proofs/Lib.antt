pub mod Steps
pub mod Searches
pub mod Words
pub mod Readings
pub mod Lines
pub mod Saves
pub mod Forms
pub mod QuietSteps
