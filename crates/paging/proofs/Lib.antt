pub mod Drops
pub mod Works
pub mod Translations
pub mod Staying
pub mod WithEntry
