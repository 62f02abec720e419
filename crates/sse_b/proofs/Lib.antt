pub mod Bytes
pub mod Words
pub mod Meet
mod Targeted
