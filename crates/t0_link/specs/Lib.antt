pub mod Carrying
pub mod Exchanging
pub mod Linking
pub mod Passing
pub mod Tpdus
pub mod Transmitting
