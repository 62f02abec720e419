-- The lists and trees of the code, as they are built one piece after another.
pub mod Actions
pub mod Turns
pub mod Loops
pub mod Slots
pub mod Fars
