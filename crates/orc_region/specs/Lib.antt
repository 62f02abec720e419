pub mod Stores
pub mod Code
pub mod Regions
pub mod Elements
pub mod Making
