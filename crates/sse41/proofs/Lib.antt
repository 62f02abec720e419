mod Equations
pub mod Meet
