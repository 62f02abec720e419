pub mod Cells
pub mod Packed
pub mod States
pub mod FarLoads
pub mod Functions
pub mod Runs
