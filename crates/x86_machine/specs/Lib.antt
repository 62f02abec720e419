pub mod Ends
pub mod Fetching
