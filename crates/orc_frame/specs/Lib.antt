pub mod Layout
pub mod Parts
pub mod Subject
pub mod GoodCall
pub mod Function
pub mod Frame
pub mod Code
