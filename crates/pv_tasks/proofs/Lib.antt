pub mod SameFiles
pub mod Works
pub mod Around
pub mod Deliveries
pub mod BurnMeanings
pub mod LinkMeanings
mod CheckMeanings
pub mod RunMeanings
pub mod WorkMeanings
pub mod Faults
