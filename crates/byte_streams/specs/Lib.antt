pub mod Lines
pub mod Planned
pub mod ReaderSteps
pub mod Reading
pub mod Search
pub mod Standard
pub mod Streams
