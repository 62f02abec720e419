pub mod Expressions
pub mod Body
pub mod CAs
pub mod Shapes
pub mod Laws
pub mod Text
pub mod Spelled
