mod Known
pub mod Lanewise
pub mod Ranges
pub mod Runs
pub mod Two
pub mod Ways
pub mod Words
pub mod Formulas
pub mod Machine
pub mod Targeted
