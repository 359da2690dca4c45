pub mod Opening
pub mod Bools
pub mod Parts
mod UsedPages
pub mod Boards
pub mod Memories
mod Alones
mod Sights
pub mod CarriedStep
pub mod Keeping
mod LookedUses
mod LookedMarks
pub mod AmongPages
pub mod AfterTry
pub mod Filling
mod Closing
pub mod Shedding
pub mod Readying
pub mod Behind
mod Resettling
pub mod Stays
pub mod StepReady
pub mod Returning
mod Dropping
pub mod Knowing
mod Ended
mod Leaving
pub mod Widening
mod Texts
pub mod FrameCounts
mod AtRest
