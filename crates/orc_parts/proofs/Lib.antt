pub mod Dests
pub mod Together
pub mod EvenCuts
