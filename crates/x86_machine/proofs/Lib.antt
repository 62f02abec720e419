pub mod Runs
pub mod OneEnd
