pub mod Access
pub mod Applied
pub mod Steps
