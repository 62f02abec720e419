mod Equations
mod Division
pub mod Meet
mod Targeted
