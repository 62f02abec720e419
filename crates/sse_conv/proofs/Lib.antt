mod Equations
mod Widenings
mod Narrowings
mod Clamps
mod Products
pub mod Meet
mod Targeted
