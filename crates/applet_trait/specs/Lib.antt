pub mod Laws
pub mod Minds
pub mod Tables
pub mod Turns
