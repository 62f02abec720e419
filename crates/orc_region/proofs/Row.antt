-- What the loops over the elements of a row do.
pub mod Regions
pub mod Gaps
pub mod Parts
pub mod Counters
