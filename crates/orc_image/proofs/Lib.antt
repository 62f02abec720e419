pub mod Growing
pub mod Unless
pub mod Again
pub mod Loop
pub mod Aligned
pub mod Lines
pub mod OneListing
