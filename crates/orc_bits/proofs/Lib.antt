pub mod LaneLaws
pub mod Bits
pub mod Numbering
pub mod Memories
pub mod PartLaws
pub mod Bytewise
pub mod Products
