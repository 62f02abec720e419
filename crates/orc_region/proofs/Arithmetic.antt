-- Numbers, their bytes, and the lanes of registers.
pub mod Digits
pub mod SubLanes
