pub mod Few
pub mod Joined
pub mod NthOf
pub mod Pieces
pub mod Standing
