pub mod Flow
pub mod Does
pub mod Moves
pub mod Touching
pub mod Tree
