pub mod Instructions
pub mod Around
pub mod WaysOn
pub mod Spelled
pub mod PatchedParts
pub mod PatchedTexts
pub mod GoesOn
pub mod InSites
