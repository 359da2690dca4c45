pub mod SmallFiles
