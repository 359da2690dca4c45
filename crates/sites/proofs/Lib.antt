pub mod Walk
pub mod GapWalk
pub mod Inverse
pub mod GapInverse
pub mod Gaps
pub mod Formats
pub mod TextSites
pub mod PatchSteps
