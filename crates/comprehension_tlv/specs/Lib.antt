pub mod Model
pub mod Reading
pub mod Seen
pub mod Writing
