-- Good calls: their arrays by slots, the cells of their rows, and what a block and a row do in them.
pub mod Agree
pub mod Cells
pub mod Fars
pub mod Setting
pub mod Residents
pub mod Holding
pub mod Wide
pub mod Doing
pub mod Blocks
pub mod Filled
pub mod Rows
