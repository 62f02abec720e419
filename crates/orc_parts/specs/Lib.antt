pub mod Split
pub mod DrawnParts
pub mod Even
