pub mod Store
pub mod State
