mod Equations
mod Words
pub mod Meet
mod Targeted
