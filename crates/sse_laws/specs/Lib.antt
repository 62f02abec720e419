pub mod Line
pub mod Meets
pub mod Laws
pub mod Targets
