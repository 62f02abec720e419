pub mod Turns
pub mod Schedules
pub mod Isolation
pub mod Lefts
pub mod Draws
pub mod OnePlay
pub mod OneDrawn
