pub mod Rows
pub mod Finding
pub mod Bounds
pub mod FarLaws
