pub mod Counts
pub mod Gathered
pub mod Places
pub mod Slices
