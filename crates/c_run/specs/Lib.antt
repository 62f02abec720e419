pub mod Tree
pub mod Whole
pub mod Meaning
pub mod State
