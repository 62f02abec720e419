-- Blocks, turns and rows have instructions of their target alone.
pub mod Blocks
pub mod Rows
