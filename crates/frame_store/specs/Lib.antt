pub mod Block
pub mod Model
