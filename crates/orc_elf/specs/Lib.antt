pub mod Entries
pub mod Sections
pub mod Fields
pub mod Told
pub mod Layout
pub mod Frames
pub mod Library
pub mod LibraryFields
