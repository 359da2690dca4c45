pub mod Places
pub mod Calls
pub mod Caches
pub mod Again
