pub mod Numbers
pub mod Widths
pub mod Lanes
pub mod Memory
pub mod Parts
