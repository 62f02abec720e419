pub mod Meets
pub mod Shifts
