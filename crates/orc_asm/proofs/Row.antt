-- The lists around a row, and the loop over the rows.
pub mod Lines
pub mod Counts
pub mod Loop
pub mod Path
pub mod Built
pub mod Runs
pub mod Emulated
