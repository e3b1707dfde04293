pub mod Bounds
pub mod Cards
pub mod Carrying
pub mod Deleting
pub mod Registering
pub mod Triggers
pub mod Trying
