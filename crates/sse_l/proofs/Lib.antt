mod Equations
mod Products
mod Swaps
pub mod Meet
mod Targeted
