pub mod Totals
mod Moved
mod Distances
pub mod Meet
pub mod Machine
mod Targeted
