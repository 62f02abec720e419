mod FieldLaws
mod ShapeLaws
mod RowLaws
pub mod Decoding
pub mod Unique
