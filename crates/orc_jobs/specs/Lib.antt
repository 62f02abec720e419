pub mod World
pub mod Alone
pub mod Drawn
