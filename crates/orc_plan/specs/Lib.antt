pub mod Core
pub mod Need
pub mod Ending
pub mod Places
pub mod Placing
pub mod Lowered
pub mod Standing
