pub mod Within
pub mod OrderRules
pub mod TurnRules
pub mod StoreRules
pub mod UserWithin
mod EipAfter
mod FlagsAfter
mod SameBytes
