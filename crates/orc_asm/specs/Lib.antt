pub mod RunsAs
pub mod Passing
pub mod Function
pub mod Rows
