pub mod Arguments
pub mod Code
pub mod Entry
pub mod Whole
