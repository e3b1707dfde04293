pub mod Adding
pub mod Fields
pub mod Laws
pub mod Spelling
