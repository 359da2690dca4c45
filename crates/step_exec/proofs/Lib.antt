pub mod Stored
pub mod Reading
pub mod Ready
pub mod Divided
pub mod Works
pub mod UserReads
pub mod UserForms
