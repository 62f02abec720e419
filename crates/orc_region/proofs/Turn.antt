-- What a turn does: a block, and the pointers and the counter go on.
pub mod Advancing
pub mod Rounds
pub mod SameSizes
pub mod Lists
pub mod Touches
pub mod Operands
pub mod Blocks
pub mod Light
pub mod Fits
