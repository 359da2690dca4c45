pub mod Quiet
pub mod Going
pub mod Ends
pub mod Found
pub mod Denying
pub mod Told
pub mod OneRun
