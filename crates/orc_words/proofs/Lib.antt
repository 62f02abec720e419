pub mod Split
pub mod Places
pub mod Taking
pub mod Passing
pub mod Clean
pub mod Keyed
