-- The code of a function: what it is made of, what it does, and which functions have none.
pub mod Parts
pub mod WideSteps
pub mod Whole
pub mod Pressed
