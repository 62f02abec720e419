pub mod Rules
pub mod Sums
pub mod Laws
