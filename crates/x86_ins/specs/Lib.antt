pub mod Spelling
pub mod Vectors
pub mod Machine
pub mod Way
pub mod Renaming
pub mod Laws
