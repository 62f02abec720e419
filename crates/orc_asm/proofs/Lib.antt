pub mod Calls
pub mod Row
pub mod Function
pub mod Targeted
