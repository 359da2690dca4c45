pub mod ReplayLaws
pub mod ProveMeanings
mod ReplayMeanings
