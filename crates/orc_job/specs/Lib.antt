pub mod Forms
pub mod Fields
pub mod Limits
pub mod Reading
pub mod Kept
pub mod Told
pub mod Printed
