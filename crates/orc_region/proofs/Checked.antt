-- What a function that passes the checks has: its operands, slots, places, sizes and lanes.
pub mod Passing
pub mod Building
pub mod Sized
pub mod Copies
pub mod Several
pub mod Direct
pub mod Fars
pub mod Acts
pub mod Knows
pub mod Numbered
pub mod Slots
pub mod Layouts
pub mod Fits
