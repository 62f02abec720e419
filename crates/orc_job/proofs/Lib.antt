pub mod Each
pub mod Unless
pub mod Faults
pub mod Keeping
mod Again
