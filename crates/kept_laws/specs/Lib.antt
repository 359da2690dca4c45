pub mod Remembered
pub mod OverSteps
pub mod Judged
pub mod Carried
pub mod Known
