pub mod Arguments
pub mod Header
pub mod Laws
pub mod Longs
