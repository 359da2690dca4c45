pub mod Kernels
pub mod Unshared
pub mod ScheduleLines
pub mod Sharing
pub mod Told
