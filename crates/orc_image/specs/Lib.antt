pub mod Spelling
pub mod Fields
pub mod Told
pub mod Mnemonics
pub mod Listing
