pub mod Wrong
pub mod Limits
pub mod Guess
pub mod Told
