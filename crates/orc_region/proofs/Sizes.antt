-- How many instructions, steps and bytes the code has, and that its instructions are allowed.
pub mod Cost
pub mod Allowed
pub mod Fars
pub mod Counts
pub mod Vectored
pub mod Bytes
pub mod Loops
pub mod Steps
