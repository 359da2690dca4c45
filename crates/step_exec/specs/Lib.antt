pub mod Plain
pub mod Agreement
pub mod Users
pub mod Divided
pub mod Ready
