pub mod Names
pub mod Keys
pub mod Tables
pub mod DirectiveTable
pub mod Size
pub mod Readable
