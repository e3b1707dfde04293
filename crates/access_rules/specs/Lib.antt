pub mod Conditions
pub mod Needs
pub mod Objects
pub mod Reading
pub mod Rules
