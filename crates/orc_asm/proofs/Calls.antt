-- Good calls, and what code promises of them.
pub mod Good
pub mod Inside
pub mod Weaker
